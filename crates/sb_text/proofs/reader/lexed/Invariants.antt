use Rattle.std.proofs.Common.{length, drop, ◌-◌, ◌≡◌, ◌≤◌}
use Rattle.sb_text.specs.Tokens.{lexed, lexed_after, with_front}
use Rattle.sb_text.proofs.reader.lexed.Given as goal

abbrev pub invariant-loop-at : goal.invariant-loop-at
invariant-loop-at l = record {
  whole : with_front l.tokens.items (lexed_after 0 l.at (drop l.at l.source)) ≡ lexed l.source;
  within : l.at ≤ length l.source;
  count : length l.tokens.items ≤ l.at;
}

abbrev pub decreases-loop-at : goal.decreases-loop-at
decreases-loop-at l = length l.source - l.at
