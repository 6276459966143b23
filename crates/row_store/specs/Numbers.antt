-- The integers of a table's columns.
use Rattle.std.specs.Prelude.{ℤ, List, [], map, Option}
use Rattle.star_model.specs.Data.{Record, integer_in, field_at}
use Rattle.star_model.specs.declared.catalogue.ColType.{ColType}
use Rattle.star_model.specs.declared.catalogue.ColType.TheVariants.{Int, Text}
use Rattle.row_store.specs.declared.header.Column.{Column}

abbrev pub if_integers : ColType → List (Option ℤ) → List (Option ℤ)
if_integers Int integers = integers
if_integers Text integers = []

-- what integer each record has in a column of integers; nothing of a column of texts
abbrev pub integers_in : List Record → Column → List (Option ℤ)
integers_in records column = if_integers column.kind (map (λ fields. integer_in (field_at fields column.place)) records)
