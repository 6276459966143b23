use Rattle.std.proofs.Common.{arith, ap, sym, ◌∙◌, subst}
use Rattle.star_model.specs.Judging.{node_count}
use Rattle.star_model.specs.JudgingEquations.{node_count-Glue}
use Rattle.plan_check.specs.Places.{IsPlace}
use Rattle.plan_check.proofs.Places.{query_is_place}
use Rattle.plan_check.proofs.judging.check_derivation.Goals as goal

pub judge_chain-requires-clause-place : goal.judge_chain-requires-clause-place
judge_chain-requires-clause-place c =
    subst (IsPlace c.args.rules.now) (sym c.query_goal.ensures) (query_is_place c.args.rules.now c.args.query.now c.stands.ensures.accepted c.requires.query)

pub judge_chain-requires-clause-room : goal.judge_chain-requires-clause-room
judge_chain-requires-clause-room c =
    let count = ap node_count c.in-Glue.is ∙ node_count-Glue c.in-Glue.chain c.in-Glue.goal in
    let same = ap node_count c.get.ensures in
    let size = c.requires.size in
    omega (arith, count, same, size)
