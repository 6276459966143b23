-- The widths of the columns of a table.
use Rattle.std.specs.Prelude.{ℕ, List, slice_get}
use Rattle.std.specs.Option.{option_map_or}
use Rattle.star_model.specs.declared.catalogue.ColumnDef.{ColumnDef}

-- the bytes of the column at this position; 0 where there is none
unfoldable pub width_in : List ColumnDef → ℕ → ℕ
width_in columns c = option_map_or (λ d. d.width) (slice_get columns c) 0
