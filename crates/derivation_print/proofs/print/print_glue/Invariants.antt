use Rattle.std.proofs.Common.{◌≡◌, map, drop}
use Rattle.spelling.specs.Lexemes.{Word}
use Rattle.derivation_reading.specs.Derivations.{Glue, glue_word, statement_of}
use Rattle.spelling.specs.Writing.{puts}
use Rattle.derivation_print.proofs.print.print_glue.Given as goal

-- the words that are left complete the statement
abbrev pub invariant-loop-operator : goal.invariant-loop-operator
invariant-loop-operator l = puts l.out (map (λ o. Word (glue_word o)) (drop l.operator-index l.chain)) ≡ puts l.fn.out (statement_of (Glue l.chain))
