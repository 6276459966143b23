use Rattle.std.proofs.Common.{◌∙◌, arith}
use Rattle.std.proofs.lemmas.Result.{err_from_is_err_and}
use Rattle.cost_formula.proofs.Turns.{stops, fails, goes, ends}
use Rattle.cost_formula.proofs.rules.Rules.sum.Goals as goal

pub returns-in_default : goal.returns-in_default
returns-in_default g c = c.turns.invariant ∙ stops _ _ _ _ _ _ _ c.turns-test.true c.in_default.ensures

pub returns-in_err-left-2 : goal.returns-in_err-left-2
returns-in_err-left-2 g c =
    let p = err_from_is_err_and c.from_residual-in_err-left-2.result c.from_residual-in_err-left-2.ensures.1 in
    rw (p.1, p.2) (fails _ _ c.in_err-left-2.field-0.0 _ _ _ _ _ _ _ _ c.turns-test.true c.in-Some.ensures c.in_err-left-2.ensures c.turns.invariant)

pub turns-preserved : goal.turns-preserved
turns-preserved g c = c.turns.invariant ∙ goes _ _ _ _ _ _ _ _ _ _ c.turns-test.true c.in-Some.ensures c.in_ok-left-2.ensures

pub returns : goal.returns
returns g c = c.turns.invariant ∙ ends _ _ _ _ _ _ (omega arith)
