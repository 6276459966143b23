use Rattle.std.proofs.Common.{◌≡◌, ◌-◌}
use Rattle.derivation_reading.specs.StatementReading.{members_behind}
use Rattle.derivation_reading.proofs.sets.rising.Given as goal

abbrev pub invariant-loop-turn : goal.invariant-loop-turn
invariant-loop-turn g l = members_behind 32 0 0 l.fn.cursor ≡ members_behind (32 - l.turn) l.least (g.S.Members.number l.set) l.cursor
