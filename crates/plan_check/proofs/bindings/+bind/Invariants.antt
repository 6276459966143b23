use Rattle.std.proofs.Common.{length}
use Rattle.plan_check.proofs.bindings.+bind.Given as goal

abbrev pub decreases-bind : goal.decreases-bind
decreases-bind l = length l.numbers.now
