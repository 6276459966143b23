-- What is kept of the statements so far, to tell whether the next one names what is defined.
use Rattle.std.specs.Prelude.{◌≡◌, ℕ, List, fold, map}
use Rattle.star_model.specs.Names.{is_among}
use Rattle.catalogue.specs.Catalogues.{CatalogueStatement}
use Rattle.catalogue.specs.declared.words.ColumnWords.{ColumnWords}
use Rattle.catalogue.specs.declared.names.Known.{Known}
use Rattle.catalogue.specs.declared.names.Defined.{Defined}
use Rattle.catalogue.specs.NameSets.{NamePair, has_pair, with_pair}
use Rattle.catalogue.specs.Defined.{sites_in, tables_in, indexes_in, columns_in}

-- the pairs with the columns of a table
abbrev pub with_columns : List NamePair → List ℕ → List ColumnWords → List NamePair
with_columns pairs table columns = fold (λ done c. with_pair done table c.name) pairs columns

-- what is known is what these statements define
pub record Knows (known : Known) (earlier : List CatalogueStatement) : Type 0 where
  pub sites : (name : List ℕ) → is_among known.sites name ≡ is_among (sites_in earlier) name
  pub tables : (name : List ℕ) → is_among known.tables name ≡ is_among (tables_in earlier) name
  pub columns : (table column : List ℕ) → has_pair known.columns table column ≡ is_among (columns_in table earlier) column

-- what is defined is what these statements define
pub record Defines (defined : Defined) (earlier : List CatalogueStatement) : Type 0 where
  pub sites : (name : List ℕ) → is_among defined.sites name ≡ is_among (sites_in earlier) name
  pub tables : (name : List ℕ) → is_among defined.tables name ≡ is_among (tables_in earlier) name
  pub indexes : (name : List ℕ) → is_among defined.indexes name ≡ is_among (indexes_in earlier) name

abbrev pub column_names : List ColumnWords → List (List ℕ)
column_names columns = map (λ c. c.name) columns
