-- What the smallest query spells: the only column of the only table.
use Rattle.std.proofs.Common.{◌≡◌, ℕ, List, [], ◌∷◌, Some, None, refl}
use Rattle.star_model.specs.declared.catalogue.Catalogue.{Catalogue}
use Rattle.star_model.specs.declared.catalogue.TableDef.{TableDef}
use Rattle.star_model.specs.declared.catalogue.ColumnDef.{ColumnDef}
use Rattle.spelling.specs.Lexemes.{IsStatements}
use Rattle.star_model.specs.Names.{place_of}
use Rattle.star_model.specs.Selectivity.{weighed}
use Rattle.query_graph.specs.Queries.{only_column, query_lexemes, IsFree, query_of, SpellsQuery}
use Rattle.star_model.proofs.Laws.{same_self}

first_place : (name : List ℕ) (names : List (List ℕ)) → place_of name (name ∷ names) ≡ Some 0
first_place name names = rw (same_self name) refl

-- the only column of the only table of a catalogue
pub one_column : (catalogue : Catalogue) (text : List ℕ) (t : TableDef) (c : ColumnDef) → catalogue.tables ≡ t ∷ [] → t.columns ≡ c ∷ [] → IsFree t.name
    → IsStatements text (query_lexemes (only_column t.name c.name) ∷ [])
    → SpellsQuery catalogue text (record {
      catalogue = catalogue;
      quants = record { name = t.name; table = 0 } ∷ [];
      select = record { quant = record { 0 = 0 }; column = 0 } ∷ [];
      preds = [];
      order = [];
      site = None;
    })
unfolding query_of weighed
one_column catalogue text t c tables columns free are = record {
  statement = only_column t.name c.name;
  are = are;
  stands = record { some_columns = tt; some_items = tt; select = (free, tt); items = ((free, tt), tt); comparisons = tt; order = tt; site = tt };
  means = rw (tables, columns, first_place t.name [], first_place t.name [], first_place c.name []) refl;
}
