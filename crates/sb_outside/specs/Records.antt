-- The records of a file of comma-separated values.
use Rattle.std.specs.Prelude.{ℕ, List, [], slice_index_or}
use Rattle.csv.specs.Reading.{records, default_config, strip_bom}

-- each record is a list of fields, each of them bytes
abbrev pub Records : Type 0
Records = List (List (List ℕ))

-- all records of these bytes as `csv` reads them: of any lengths, none of them a header, and after a byte order mark at the front
abbrev pub records_of : List ℕ → Records
records_of bytes = records default_config (strip_bom bytes)

-- the fields of the record of this number
abbrev pub record_at : Records → ℕ → List (List ℕ)
record_at table record_no = slice_index_or table record_no []
