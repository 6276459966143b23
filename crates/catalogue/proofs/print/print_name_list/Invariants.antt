use Rattle.std.proofs.Common.{map}
use Rattle.spelling.specs.Lexemes.{comma, joined_by}
use Rattle.catalogue.specs.Catalogues.{column_names, name_at, name_lexemes}
use Rattle.spelling.specs.Writing.{puts}
use Rattle.catalogue.proofs.Printed.{ItemsLeft}
use Rattle.catalogue.proofs.print.print_name_list.Given as goal

-- the names that are left, each behind a comma, complete the list
abbrev pub invariant-loop-column : goal.invariant-loop-column
invariant-loop-column l =
    ItemsLeft (λ c. name_lexemes (name_at (column_names l.table) c)) l.out l.later l.column-index (puts l.fn.out (joined_by comma (map (λ c. name_lexemes (name_at (column_names l.table) c)) l.fn.columns)))
