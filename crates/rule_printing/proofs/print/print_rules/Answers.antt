use Rattle.std.proofs.Common.{◌∙◌}
use Rattle.rule_printing.proofs.PrintedFile.{text_is}
use Rattle.rule_printing.proofs.print.print_rules.Goals as goal

pub returns : goal.returns
returns c =
    c.into_bytes.ensures
    ∙ text_is c.args.rules.now c.in_ok-statements.statements.items c.print_statements.new.out c.in_ok-statements.ensures
    (rw (c.in_ok-print_version.ensures, c.new-out.ensures, c.as_slice.ensures.value) at c.in_ok-print_statements.ensures)
