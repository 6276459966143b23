-- The greatest size of what is read.
use Rattle.std.specs.Prelude.{ℕ}

-- the bytes of a table's file
abbrev pub most_table_bytes : ℕ
most_table_bytes = 67108864
