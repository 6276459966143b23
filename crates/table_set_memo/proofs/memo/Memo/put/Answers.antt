use Rattle.std.proofs.Common.{◌∙◌, ap, ◌++◌, ◌∷◌, []}
use Rattle.indexmap.proofs.CallerLemmas.{insert_entry-new}
use Rattle.table_set_memo.specs.Memos.{plans_at, same_goal}
use Rattle.table_set_memo.proofs.MemoLaws.{plans_at-lookup}
use Rattle.table_set_memo.proofs.memo.Memo.put.Goals as goal

pub returns-clause-put : goal.returns-clause-put
returns-clause-put c =
    let g = c.args.goal in
    let none = plans_at-lookup g c.self.inside.sets.entries ∙ ap (λ memo. plans_at memo g) c.self.view_is ∙ c.requires in
    c.in_ok-insert.ensures.entries ∙ insert_entry-new same_goal c.self.inside.sets g c.args.plans none ∙ ap (λ memo. memo ++ (g, c.args.plans) ∷ []) c.self.view_is
