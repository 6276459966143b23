use Rattle.star_search.proofs.Splits.{one_done, several_done}
use Rattle.star_search.proofs.goals.goal_plans.Goals as goal
use Rattle.star_search.proofs.goals.goal_plans.Goals.{then-len-eq1+in_ok-add_split, else-len-eq1+in_ok-add_splits}

pub returns-clause-best : goal.returns-clause-best
returns-clause-best c =
    let s = c.args.search.now in
    elim c.if-len-eq1.branch [
      | then-len-eq1+in_ok-add_split w ↦ one_done s.query.now s.rules.now s.goal.tables s.goal.pushed c.len.result c.new-out.result w.add_split.new.out c.if-len-eq1.out c.len.ensures w.if-len-eq1.true c.new-out.ensures
          w.in_ok-add_split.ensures.gathered w.out-is c.apart.ensures
      | else-len-eq1+in_ok-add_splits w ↦ several_done s.query.now s.rules.now s.goal.tables s.goal.pushed c.len.result c.new-out.result w.add_splits.new.out c.if-len-eq1.out c.requires.open.goal.bounds.0 c.len.ensures
          w.if-len-eq1.false c.new-out.ensures w.in_ok-add_splits.ensures.gathered w.out-is c.apart.ensures
    ]
