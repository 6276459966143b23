use Rattle.std.proofs.Common.{◌∙◌}
use Rattle.catalogue.proofs.Printed.{text_is}
use Rattle.catalogue.proofs.print.print_catalogue.Goals as goal

pub returns : goal.returns
returns c =
    c.into_bytes.ensures
    ∙ text_is c.args.catalogue.now c.print_sites.new.out c.print_tables.new.out c.print_indexes.new.out (rw (c.new-out.ensures, c.as_slice.ensures) at c.in_ok-print_sites.ensures)
    c.in_ok-print_tables.ensures c.in_ok-print_indexes.ensures
