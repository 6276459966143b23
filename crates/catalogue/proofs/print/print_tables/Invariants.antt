use Rattle.std.proofs.Common.{map}
use Rattle.catalogue.specs.Catalogues.{catalogue_lexemes, table_statement}
use Rattle.spelling.specs.Writing.{lines}
use Rattle.catalogue.proofs.Printed.{LinesLeft}
use Rattle.catalogue.proofs.print.print_tables.Given as goal

-- those that are left complete the text
abbrev pub invariant-loop-table : goal.invariant-loop-table
invariant-loop-table l = LinesLeft (table_statement l.catalogue) l.out l.catalogue.tables l.table-index (lines l.fn.out (map catalogue_lexemes (map (table_statement l.catalogue) l.catalogue.tables)))
