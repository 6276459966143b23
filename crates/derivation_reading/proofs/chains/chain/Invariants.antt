use Rattle.std.proofs.Common.{◌≡◌, ◌-◌, ◌≤◌, length, []}
use Rattle.spelling.specs.Reading.{a_word}
use Rattle.derivation_reading.specs.StatementReading.{glue_operator, up_to}
use Rattle.derivation_reading.proofs.chains.chain.Given as goal

abbrev pub invariant-loop-turn : goal.invariant-loop-turn
invariant-loop-turn l = record {
  left : up_to a_word glue_operator 3 [] l.fn.cursor ≡ up_to a_word glue_operator (3 - l.turn) l.chain l.cursor;
  few : length l.chain ≤ l.turn;
}
