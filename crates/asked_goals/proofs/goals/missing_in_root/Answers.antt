use Rattle.std.proofs.Common.{◌≡◌, ◌∙◌, sym, subst, Some}
use Rattle.star_model.specs.Expected.{Expected, Call, root_call}
use Rattle.exchange.specs.Asking.{AsksFrom}
use Rattle.search_places.specs.Roots.{root_of_split}
use Rattle.star_value.specs.Roots.{root_values}
use Rattle.search_places.specs.Memos.{FirstMissing}
use Rattle.search_places.specs.Searching.{LeadsTo}
use Rattle.search_places.proofs.Laws.{to_root, root_is_called}
use Rattle.asked_goals.proofs.goals.missing_in_root.Goals as goal

pub missing_in_call-requires-clause-leads : goal.missing_in_call-requires-clause-leads
missing_in_call-requires-clause-leads c =
    let s = c.args.search.now in
    let here : Call (root_of_split (Some c.args.split)) (root_values s.goal.tables s.goal.pushed (Some c.args.split)) ≡ Call c.root_name-root.result.now c.root_values.result =
    (λ i. Call (sym c.root_name-root.ensures i) (sym c.root_values.ensures i)) in
    subst (λ (x : Expected). LeadsTo s x) here (to_root s (Some c.args.split) c.requires.split)

pub returns : goal.returns
returns c =
    let s = c.args.search.now in
    let here : Call c.root_name-root.result.now c.root_values.result ≡ root_call s.goal.tables s.goal.pushed (Some c.args.split) =
    (λ i. Call (c.root_name-root.ensures i) (c.root_values.ensures i)) ∙ sym (root_is_called s.goal.tables s.goal.pushed (Some c.args.split)) in
    subst (λ (x : Expected). FirstMissing s.memo.now (AsksFrom s.query.now s.rules.now x) c.missing_in_call.result) here c.missing_in_call.ensures
