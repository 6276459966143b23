-- Records that hold rows, and tables that are loaded.
use Rattle.std.specs.Prelude.{◌≡◌, ◌<◌, ℕ, List, length, slice_get, Some, IsSome}
use Rattle.std.specs.Option.{IsSomeAnd}
use Rattle.sb_outside.specs.Records.{Records}
use Rattle.star_model.specs.Data.{table_rows}
use Rattle.star_model.specs.declared.catalogue.Catalogue.{Catalogue}
use Rattle.star_model.specs.declared.catalogue.Value.{Value}
use Rattle.row_steps.specs.declared.tables.Tables.{Tables}

-- records of the table with this number hold rows
abbrev pub HoldsRows : Catalogue → ℕ → Records → Type 0
HoldsRows catalogue n records = (rows : List (List Value)) × (table_rows catalogue n records ≡ Some rows)

-- those of each table do
abbrev pub HoldRows : Catalogue → List Records → Type 0
HoldRows catalogue tables = (n : ℕ) (records : Records) → slice_get tables n ≡ Some records → HoldsRows catalogue n records

-- each table of the catalogue is loaded
abbrev pub AreAllLoaded : Catalogue → Tables → Type 0
AreAllLoaded catalogue tables = (n : ℕ) → n < length catalogue.tables → IsSomeAnd (slice_get tables.loaded n) IsSome
