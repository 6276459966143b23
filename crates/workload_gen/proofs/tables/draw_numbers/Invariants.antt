use Rattle.std.proofs.Common.{◌-◌}
use Rattle.workload_gen.specs.Draws.{state_after, numbers_from}
use Rattle.workload_gen.proofs.DrawLaws.{NumbersLeft}
use Rattle.workload_gen.proofs.tables.draw_numbers.Given as goal

-- those that are left complete the whole
abbrev pub invariant-loop-number : goal.invariant-loop-number
invariant-loop-number l = NumbersLeft l.numbers (l.count - l._number) l.choices l.draws.state (numbers_from l.count l.choices l.fn.draws.state) (state_after l.count l.fn.draws.state)
