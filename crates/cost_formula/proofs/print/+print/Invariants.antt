use Rattle.std.proofs.Common.{◌+◌, ◌*◌, length}
use Rattle.star_model.specs.Monotone.{nodes}
use Rattle.cost_formula.proofs.print.+print.Given as goal

-- The number of nodes falls, three times over: within a formula what is written round it comes first.
abbrev pub decreases-write_formula : goal.decreases-write_formula
decreases-write_formula l = 3 * length (nodes l.formula.now)

abbrev pub decreases-write_operand : goal.decreases-write_operand
decreases-write_operand l = 3 * length (nodes l.formula.now) + 1

abbrev pub decreases-write_infix : goal.decreases-write_infix
decreases-write_infix l = 3 * (length (nodes l.left.0.now) + length (nodes l.right.0.now)) + 2

abbrev pub decreases-write_call : goal.decreases-write_call
decreases-write_call l = 3 * (length (nodes l.a.now) + length (nodes l.b.now)) + 1
