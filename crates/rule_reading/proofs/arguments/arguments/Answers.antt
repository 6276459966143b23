use Rattle.std.proofs.lemmas.Result.{err_from_is_err_and}
use Rattle.rule_grammar.specs.PlanReading.{arguments_at}
use Rattle.spelling.specs.SeriesLoopCases.{ends, goes, falls}
use Rattle.rule_reading.proofs.Loops.{stops}
use Rattle.rule_reading.proofs.Parts.{value_is, commas}
use Rattle.rule_reading.proofs.arguments.arguments.Goals as goal

pub returns-in_err-argument : goal.returns-in_err-argument
unfolding arguments_at
returns-in_err-argument c =
    let p = err_from_is_err_and c.from_residual.result c.from_residual.ensures.1 in
    rw (p.1, p.2) (stops _ _ _ _ _ _ _ _ c.loop-arguments.invariant c.in_err-argument.ensures)

pub returns-then-is_none : goal.returns-then-is_none
unfolding arguments_at
returns-then-is_none c =
    ends _ _ _ _ _ _ _ _ _ _ c.loop-arguments.invariant c.in_ok-argument.ensures c.in_ok-push.ensures.ok c.the_symbol.ensures.reads c.the_symbol.ensures.stays c.if-is_none.ensures

pub loop-arguments-smaller : goal.loop-arguments-smaller
loop-arguments-smaller c = falls _ _ _ _ _ (value_is _ _) commas _ c.in_ok-argument.argument c.value.new.cursor _ _ c.in_ok-argument.ensures c.the_symbol.ensures.reads c.if-is_none.ensures

pub loop-arguments-preserved : goal.loop-arguments-preserved
loop-arguments-preserved c =
    goes _ _ _ _ _ (value_is _ _) commas _ _ _ _ _ _ _ _ c.loop-arguments.invariant c.in_ok-argument.ensures c.in_ok-push.ensures.ok c.the_symbol.ensures.reads c.if-is_none.ensures
