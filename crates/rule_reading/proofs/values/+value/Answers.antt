use Rattle.std.proofs.Common.{arith}
use Rattle.rule_reading.proofs.Depth.{no_value, deeper_value}
use Rattle.rule_reading.proofs.values.+value.Goals as goal

pub returns-then-depth-eq0 : goal.returns-then-depth-eq0
returns-then-depth-eq0 t c = no_value _ _ _ (omega arith)

pub returns : goal.returns
returns t c = rw (deeper_value c.args.scope.now c.args.depth c.args.cursor.now (omega arith)) c.value.ensures
