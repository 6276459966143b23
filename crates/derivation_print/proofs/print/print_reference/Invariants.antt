use Rattle.std.proofs.Common.{◌≡◌, map, drop}
use Rattle.spelling.specs.Lexemes.{Number}
use Rattle.derivation_reading.specs.Derivations.{Reference, statement_of}
use Rattle.spelling.specs.Writing.{puts}
use Rattle.derivation_print.proofs.print.print_reference.Given as goal

-- the numbers that are left complete the statement
abbrev pub invariant-loop-value : goal.invariant-loop-value
invariant-loop-value l = puts l.out (map Number (drop l.value-index l.values)) ≡ puts l.fn.out (statement_of (Reference l.star l.alternative l.values))
