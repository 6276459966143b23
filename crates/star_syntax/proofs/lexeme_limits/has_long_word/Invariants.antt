use Rattle.std.proofs.Common.{◌≡◌, length}
use Rattle.std.specs.List.{list_any}
use Rattle.spelling.specs.Cursors.{AreTokensOf}
use Rattle.spelling.specs.Lexemes.{lexemes_of}
use Rattle.star_syntax.specs.LimitTests.{is_long}
use Rattle.star_syntax.proofs.lexeme_limits.has_long_word.Given as goal

abbrev pub invariant-loop-left : goal.invariant-loop-left
invariant-loop-left l = AreTokensOf l.source l.left × (list_any is_long (lexemes_of l.source l.left) ≡ list_any is_long (lexemes_of l.source l.tokens))

abbrev pub decreases-loop-left : goal.decreases-loop-left
decreases-loop-left l = length l.left
