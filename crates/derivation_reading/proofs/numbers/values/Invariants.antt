use Rattle.std.proofs.Common.{◌≡◌, ◌-◌, ◌≤◌, length, []}
use Rattle.spelling.specs.Reading.{a_number}
use Rattle.derivation_reading.specs.StatementReading.{counted, up_to}
use Rattle.derivation_reading.proofs.numbers.values.Given as goal

abbrev pub invariant-loop-turn : goal.invariant-loop-turn
invariant-loop-turn l = record {
  left : up_to a_number counted 2 [] l.fn.cursor ≡ up_to a_number counted (2 - l.turn) l.values l.cursor;
  few : length l.values ≤ l.turn;
}
