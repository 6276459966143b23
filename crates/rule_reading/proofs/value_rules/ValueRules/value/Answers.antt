use Rattle.std.proofs.Common.{sym}
use Rattle.std.proofs.lemmas.Result.{err_from_is_err_and}
use Rattle.rule_reading.proofs.Requirements.{value_shrinks, smaller, went, stopped, finished}
use Rattle.rule_reading.proofs.value_rules.ValueRules.value.Goals as goal

pub returns-in_err-value-2 : goal.returns-in_err-value-2
returns-in_err-value-2 g c =
    let p = err_from_is_err_and c.from_residual-in_err-value-2.result c.from_residual-in_err-value-2.ensures.1 in
    rw (p.1, p.2) (stopped _ (value_shrinks _ _) _ _ _ c.loop-cursor.invariant c.the_symbol.result _ _ _ c.the_symbol.ensures.reads (sym c.loop-cursor-test.ensures) c.in_err-value-2.ensures)

pub loop-cursor-smaller : goal.loop-cursor-smaller
loop-cursor-smaller g c =
    smaller _ (value_shrinks _ _) _ _ _ c.loop-cursor.invariant c.the_symbol.result _ _ _ c.the_symbol.ensures.reads (sym c.loop-cursor-test.ensures) c.in_ok-value-2.ensures

pub loop-cursor-preserved : goal.loop-cursor-preserved
loop-cursor-preserved g c =
    went _ (value_shrinks _ _) _ _ _ c.loop-cursor.invariant c.the_symbol.result _ _ _ c.the_symbol.ensures.reads (sym c.loop-cursor-test.ensures) c.in_ok-value-2.ensures

pub returns : goal.returns
returns g c =
    finished _ (value_shrinks _ _) _ _ _ c.loop-cursor.invariant c.the_symbol.result _ c.the_symbol.ensures.reads c.the_symbol.ensures.stays (sym c.loop-cursor-test.ensures)
