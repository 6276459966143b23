-- The rows of a workload's tables.
use Rattle.std.specs.Prelude.{◌≡◌, ℕ, List, [], slice_get, slice_index_or, Some}
use Rattle.sb_outside.specs.Records.{Records}
use Rattle.star_model.specs.Answers.{Data}
use Rattle.star_model.specs.Data.{table_rows}
use Rattle.star_model.specs.declared.catalogue.Catalogue.{Catalogue}

-- the rows of each table of the catalogue are those that its records hold
abbrev pub AreRows : Catalogue → List Records → Data → Type 0
AreRows catalogue tables data_ =
    (n : ℕ) (records : Records) → slice_get tables n ≡ Some records → table_rows catalogue n records ≡ Some (slice_index_or data_ n [])
