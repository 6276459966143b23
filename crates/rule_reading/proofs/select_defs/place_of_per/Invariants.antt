use Rattle.std.proofs.Common.{◌≡◌, ◌≤◌, ◌+◌, length}
use Rattle.std.specs.List.{position_or_len}
use Rattle.spelling.specs.Cursors.{AreTokensOf}
use Rattle.spelling.specs.Lexemes.{lexemes_of}
use Rattle.rule_grammar.specs.SelectHeads.{is_per}
use Rattle.rule_reading.proofs.select_defs.place_of_per.Given as goal

abbrev pub invariant-loop-left : goal.invariant-loop-left
invariant-loop-left l =
    AreTokensOf l.source l.left
    × (length l.left ≤ length l.tokens)
    × (position_or_len is_per (lexemes_of l.source l.tokens) + length l.left ≡ length l.tokens + position_or_len is_per (lexemes_of l.source l.left))

abbrev pub decreases-loop-left : goal.decreases-loop-left
decreases-loop-left l = length l.left
