use Rattle.std.proofs.Common.{map}
use Rattle.spelling.specs.Writing.{lines}
use Rattle.rule_printing.proofs.PrintedFile.{LinesLeft}
use Rattle.rule_printing.specs.Printing.{statement_lexemes}
use Rattle.rule_printing.proofs.print.print_statements.Given as goal

-- the statements that are left complete the text
abbrev pub invariant-loop-statement : goal.invariant-loop-statement
invariant-loop-statement l = LinesLeft statement_lexemes l.out l.statements l.statement-index (lines l.fn.out (map statement_lexemes l.statements))
