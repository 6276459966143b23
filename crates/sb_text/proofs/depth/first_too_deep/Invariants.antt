use Rattle.std.proofs.Common.{length, ◌≡◌, ◌+◌, ◌≤◌}
use Rattle.std.specs.List.{position_from}
use Rattle.sb_text.specs.Statements.{parts, parts_of_iter}
use Rattle.sb_text.specs.Depth.{is_too_deep, first_too_deep}
use Rattle.sb_text.proofs.depth.first_too_deep.Given as goal

abbrev pub invariant-loop-statement : goal.invariant-loop-statement
invariant-loop-statement l = record {
  first : position_from (λ part. is_too_deep part.0) l.number (parts_of_iter l.statement-iterator) ≡ first_too_deep (parts l.tokens);
  number : l.number + length (parts_of_iter l.statement-iterator) ≤ length l.tokens + 1;
}
