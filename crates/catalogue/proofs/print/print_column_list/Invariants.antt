use Rattle.std.proofs.Common.{map}
use Rattle.spelling.specs.Lexemes.{comma, joined_by}
use Rattle.catalogue.specs.Catalogues.{column_lexemes}
use Rattle.spelling.specs.Writing.{puts}
use Rattle.catalogue.proofs.Printed.{ItemsLeft}
use Rattle.catalogue.proofs.print.print_column_list.Given as goal

-- the columns that are left, each behind a comma, complete the list
abbrev pub invariant-loop-column : goal.invariant-loop-column
invariant-loop-column l = ItemsLeft column_lexemes l.out l.later l.column-index (puts l.fn.out (joined_by comma (map column_lexemes l.fn.columns)))
