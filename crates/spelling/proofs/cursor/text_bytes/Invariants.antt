use Rattle.std.proofs.Common.{length, drop, ◌-◌, ◌≡◌, ◌≤◌, ◌++◌}
use Rattle.spelling.specs.Lexemes.{undoubled}
use Rattle.spelling.proofs.cursor.text_bytes.Given as goal

abbrev pub invariant-loop-at : goal.invariant-loop-at
invariant-loop-at l = (l.bytes.items ++ undoubled (drop l.at l.written) ≡ undoubled l.written) × (l.at ≤ length l.written)

abbrev pub decreases-loop-at : goal.decreases-loop-at
decreases-loop-at l = length l.written - l.at
