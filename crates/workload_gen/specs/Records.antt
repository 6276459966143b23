-- The records of a workload's tables: a header, and each row's number and the number of the row to which it refers, in decimal.
use Rattle.std.specs.Prelude.{ℕ, ◌+◌, List, [], ◌∷◌, codes, decimal}
use Rattle.sb_outside.specs.Records.{Records}
use Rattle.workload_gen.specs.declared.tables.DrawnTable.{DrawnTable}

abbrev pub header : List (List ℕ)
header = codes "id" ∷ codes "prev" ∷ []

abbrev pub row_record : ℕ → ℕ → List (List ℕ)
row_record id' prev = decimal id' ∷ decimal prev ∷ []

-- the records of rows from a number on
abbrev pub rows_from : ℕ → List ℕ → Records
rows_from id' [] = []
rows_from id' (prev ∷ later) = row_record id' prev ∷ rows_from (id' + 1) later

abbrev pub records_of : DrawnTable → Records
records_of table = header ∷ rows_from 0 table.prevs
