use Rattle.std.proofs.Common.{map}
use Rattle.spelling.specs.Writing.{lines}
use Rattle.rule_printing.proofs.PrintedFile.{line_next, lines_done}
use Rattle.rule_printing.specs.Printing.{statement_lexemes}
use Rattle.rule_printing.proofs.print.print_statements.Goals as goal

pub loop-statement-preserved : goal.loop-statement-preserved
loop-statement-preserved c =
    let statements = c.args.statements.now in
    line_next statement_lexemes c.loop-statement.out c.print_statement.new.out c.end_statement.new.self (lines c.args.out.now (map statement_lexemes statements)) statements
    c.loop-statement.statement-index c.statement-item.result c.loop-statement-test.true c.loop-statement.invariant c.statement-item.is c.in_ok-print_statement.ensures c.in_ok-end_statement.ensures

pub returns : goal.returns
returns c =
    let statements = c.args.statements.now in
    lines_done statement_lexemes c.loop-statement.out (lines c.args.out.now (map statement_lexemes statements)) statements c.loop-statement.statement-index
    c.loop-statement-test.false c.loop-statement.invariant
