-- What the smallest catalogue spells: one site, and one table at it.
use Rattle.std.proofs.Common.{◌≡◌, ℕ, List, [], ◌∷◌, Some, refl, ap, ◌∙◌}
use Rattle.star_model.specs.declared.catalogue.SiteDef.{SiteDef}
use Rattle.spelling.specs.Lexemes.{IsStatements}
use Rattle.star_model.specs.Every.{HasItem}
use Rattle.star_model.specs.Names.{place_of}
use Rattle.catalogue.specs.Catalogues.{Site, Table, TablePart, table_from, catalogue_lexemes, catalogue_of, SpellsCatalogue}
use Rattle.star_model.proofs.Laws.{same_self}

first_place : (name : List ℕ) (names : List (List ℕ)) → place_of name (name ∷ names) ≡ Some 0
first_place name names = rw (same_self name) refl

-- one site, and one table at it
pub one_table : (text : List ℕ) (s : SiteDef) (t : TablePart) → t.site ≡ s.name → HasItem t.columns → IsStatements text (catalogue_lexemes (Site s) ∷ catalogue_lexemes (Table t) ∷ [])
    → SpellsCatalogue text (record { sites = s ∷ []; tables = table_from 0 t ∷ []; indexes = [] })
unfolding catalogue_of
one_table text s t at columns are = record {
  statements = Site s ∷ Table t ∷ [];
  are = are;
  columns = (tt, (columns, tt));
  means = rw (ap (λ (n : List ℕ). place_of n (s.name ∷ [])) at ∙ first_place s.name []) refl;
}
