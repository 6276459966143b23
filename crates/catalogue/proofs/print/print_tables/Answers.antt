use Rattle.std.proofs.Common.{map, length}
use Rattle.star_model.specs.WellFormed.{WellFormedTable}
use Rattle.catalogue.specs.Catalogues.{catalogue_lexemes, table_statement}
use Rattle.spelling.specs.Writing.{lines}
use Rattle.catalogue.proofs.Printed.{line_next, lines_done, each_at}
use Rattle.catalogue.proofs.print.print_tables.Goals as goal

pub print_table-requires : goal.print_table-requires
print_table-requires c = each_at (WellFormedTable (length c.args.catalogue.now.sites)) c.args.catalogue.now.tables c.loop-table.table-index c.table-item.result c.requires.tables (rw c.as_slice-table-items.ensures at c.loop-table-test.true) (rw c.as_slice-table-items.ensures at c.table-item.is)

pub loop-table-preserved : goal.loop-table-preserved
loop-table-preserved c =
    line_next (table_statement c.args.catalogue.now) c.loop-table.out c.print_table.new.out (lines c.args.out.now (map catalogue_lexemes (map (table_statement c.args.catalogue.now) c.args.catalogue.now.tables))) c.args.catalogue.now.tables c.loop-table.table-index c.table-item.result
    (rw c.as_slice-table-items.ensures at c.loop-table-test.true) c.loop-table.invariant (rw c.as_slice-table-items.ensures at c.table-item.is) c.in_ok-print_table.ensures

pub returns : goal.returns
returns c = lines_done (table_statement c.args.catalogue.now) c.loop-table.out (lines c.args.out.now (map catalogue_lexemes (map (table_statement c.args.catalogue.now) c.args.catalogue.now.tables))) c.args.catalogue.now.tables c.loop-table.table-index (rw c.as_slice-table-items.ensures at c.loop-table-test.false) c.loop-table.invariant
