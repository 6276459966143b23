-- The names of a workload's tables, indexes and quantifiers, each a letter and a number from 1.
use Rattle.std.specs.Prelude.{ℕ, List, ◌++◌, codes, decimal}

abbrev pub table_name : ℕ → List ℕ
table_name number = codes "t" ++ decimal number

abbrev pub index_name : ℕ → List ℕ
index_name number = codes "x" ++ decimal number

abbrev pub quantifier_name : ℕ → List ℕ
quantifier_name number = codes "q" ++ decimal number

abbrev pub file_name : ℕ → List ℕ
file_name number = table_name number ++ codes ".csv"
