-- The tables of a query, and their rows.
use Rattle.std.specs.Prelude.{◌≡◌, ℕ, not, nat_eq, List, [], ◌∷◌, map, filter, slice_get, slice_index_or, Option, Some, Contains}
use Rattle.std.specs.Option.{option_map_or}
use Rattle.sb_outside.specs.Records.{Records}
use Rattle.sb_outside.specs.Shelf.{Files, TellsRecords}
use Rattle.star_model.specs.Answers.{Data}
use Rattle.star_model.specs.Data.{table_rows}
use Rattle.star_model.specs.declared.catalogue.Value.{Value}
use Rattle.star_model.specs.declared.query.Query.{Query}
use Rattle.table_taking.specs.Limits.{most_table_bytes}

-- each number once, by its first place
abbrev pub firsts : List ℕ → List ℕ
firsts [] = []
firsts (n ∷ ns) = n ∷ filter (λ m. not (nat_eq m n)) (firsts ns)

-- the numbers of the query's tables in the catalogue, each once, by its first quantifier
abbrev pub tables_of : Query → List ℕ
tables_of query = firsts (map (λ d. d.table) query.quants)

-- the name of a table, and of its file; what is not there has the empty name

abbrev pub name_of : Query → ℕ → List ℕ
name_of query n = option_map_or (λ t. t.name) (slice_get query.catalogue.tables n) []

abbrev pub file_of : Query → ℕ → List ℕ
file_of query n = option_map_or (λ t. t.file) (slice_get query.catalogue.tables n) []

module _ (query : Query) (told : Option Files) where
  -- these are the rows of the table, from the records of its file, where that is told
  pub record HasRows (n : ℕ) (rows : List (List Value)) : Type 0 where
    pub records : Records
    pub held : TellsRecords told (file_of query n) most_table_bytes records
    pub are : table_rows query.catalogue n records ≡ Some rows

  -- the rows of each table of the query are its rows
  abbrev pub AreRows : Data → Type 0
  AreRows data_ = (n : ℕ) → Contains (tables_of query) n → HasRows n (slice_index_or data_ n [])
