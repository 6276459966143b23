use Rattle.search_places.proofs.Laws.{references_none}
use Rattle.star_search.proofs.Splits.{split_done, root_leads, on_ok}
use Rattle.star_search.proofs.goals.add_split.Goals as goal

pub plans_of_call-requires-clause-leads : goal.plans_of_call-requires-clause-leads
plans_of_call-requires-clause-leads c =
    root_leads c.args.search.now c.args.split.now c.root_name-root.result.now c.root_values-values.result c.requires.split c.root_name-root.ensures c.root_values-values.ensures

pub returns-clause-gathered : goal.returns-clause-gathered
returns-clause-gathered c =
    let s = c.args.search.now in
    on_ok c.add_goals.result _ _
    (split_done s.query.now s.rules.now s.goal c.args.split.now c.args.target.now c.root_name-root.result.now c.root_values-values.result c.in_ok-plans.plans c.args.out.now c.add_goals.new.out c.requires.split
    c.root_name-root.ensures c.root_values-values.ensures c.in_ok-plans.ensures.best c.requires.target)
    c.add_goals.ensures

pub plans_of_call-requires-clause-shared : goal.plans_of_call-requires-clause-shared
plans_of_call-requires-clause-shared c =
    let s = c.args.search.now in
    record { references = references_none s.query.now s.rules.now c.new.result c.new.ensures; glued = c.requires.shared.glued }
