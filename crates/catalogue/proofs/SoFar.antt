-- Statements are resolved one by one.
use Rattle.std.proofs.Common.{◌≡◌, ◌<◌, ◌≤◌, ℕ, ◌+◌, false, nat_le, nat_lt, List, [], ◌∷◌, ◌++◌, length, take, drop, Some, refl, sym, ap, ◌∙◌, subst, arith, length-append}
use Rattle.std.specs.Prelude.{◌||◌, slice_get, is_some}
use Rattle.std.specs.Option.{option_and_then}
use Rattle.std.proofs.lemmas.List.{length-map}
use Rattle.std.proofs.lemmas.Bool.{false_from_ne_true, ltb-false, ltb-true, leb-true, leb-false}
use Rattle.star_model.specs.declared.catalogue.Catalogue.{Catalogue}
use Rattle.star_model.specs.declared.catalogue.SiteDef.{SiteDef}
use Rattle.star_model.specs.declared.catalogue.TableDef.{TableDef}
use Rattle.star_model.specs.declared.faults.LimitKind.TheVariants as limit
use Rattle.star_model.specs.Every.{Every}
use Rattle.catalogue.specs.Catalogues.{CatalogueStatement, Site, Table, Index, with_statement, with_statements, nothing_defined, catalogue_of, table_from}
use Rattle.catalogue.specs.Defined.{NamesUnknown, DefinesTwice, sites_in, tables_in, names_unknown, is_defined, has_column_twice}
use Rattle.catalogue.specs.Beyond.{IsBeyond}
use Rattle.catalogue.specs.Judged.{AreClear}
use Rattle.catalogue.specs.LimitTests.{has_great_number}
use Rattle.catalogue.specs.Resolving.{IsNarrow, IsSmall, HasFewColumns, CanBeAdded}
use Rattle.catalogue.proofs.LexemeLimits.{great_from}
use Rattle.catalogue.proofs.FirstLaws.{take_one, drop_one, none_here}
use Rattle.catalogue.proofs.MeaningLaws.{Means, Goes, goes, means_nothing, finds_site}

-- what was added is what the statements so far mean, and what is left is added to it
pub record SoFar (statements : List CatalogueStatement) (i : ℕ) (c : Catalogue) : Type 0 where
  pub left : with_statements c (drop i statements) ≡ catalogue_of statements
  pub means : Means c (take i statements)
  pub small : IsSmall c

pub none_so_far : (statements : List CatalogueStatement) → SoFar statements 0 nothing_defined
unfolding catalogue_of
none_so_far statements = record { left = refl; means = means_nothing; small = record { sites = omega arith; tables = omega arith; columns = tt } }

-- ---- one statement more

module _ (statements : List CatalogueStatement) (clear : AreClear statements) (i : ℕ) (x : CatalogueStatement) (at : slice_get statements i ≡ Some x) where
  abbrev pub before : List CatalogueStatement
  before = take i statements

  pub known : names_unknown before x ≡ false
  known = false_from_ne_true (names_unknown before x) (λ h. none_here NamesUnknown statements i x clear.known at h)

  pub once : (is_defined before x || has_column_twice x) ≡ false
  once = false_from_ne_true (is_defined before x || has_column_twice x) (λ h. none_here DefinesTwice statements i x clear.once at h)

  pub within : IsBeyond before x → ⊥
  within beyond = none_here IsBeyond statements i x clear.within at beyond

below : (m n : ℕ) → (m ≤ n → ⊥) → n < m
below m n not_ = leb-false m n (false_from_ne_true (nat_le m n) (λ h. not_ (leb-true m n h)))

few_columns : (earlier : List CatalogueStatement) (x : CatalogueStatement) → (IsBeyond earlier x → ⊥) → HasFewColumns x
few_columns earlier (Site s) fine = tt
few_columns earlier (Table t) fine = ltb-false 32 (length t.columns) (false_from_ne_true (nat_lt 32 (length t.columns)) (λ wide. fine (limit.Columns, ltb-true 32 (length t.columns) wide)))
few_columns earlier (Index i) fine = ltb-false 8 (length i.columns) (false_from_ne_true (nat_lt 8 (length i.columns)) (λ wide. fine (limit.IndexColumns, ltb-true 8 (length i.columns) wide)))

pub every_with : {A : Type 0} (P : A → Type 0) (xs : List A) (x : A) → Every P xs → P x → Every P (xs ++ x ∷ [])
every_with P [] x all p = (p, tt)
every_with P (y ∷ xs) x all p = (all.0, every_with P xs x all.1 p)

small_after : (c : Catalogue) (earlier : List CatalogueStatement) (x : CatalogueStatement) (m : Means c earlier) (known : names_unknown earlier x ≡ false)
    (once : (is_defined earlier x || has_column_twice x) ≡ false) → (IsBeyond earlier x → ⊥) → IsSmall c → IsSmall (goes c earlier x m known once).after
unfolding goes
small_after c earlier (Site s) m known once fine small =
    let count : length (c.sites ++ s ∷ []) ≡ length c.sites + 1 = length-append c.sites (s ∷ []) in
    let before : length c.sites ≡ length (sites_in earlier) = sym (length-map c.sites (λ (d : SiteDef). d.name)) ∙ ap length m.sites in
    let few : length (sites_in earlier) < 8 = below 8 (length (sites_in earlier)) (λ many. fine (limit.Sites, many)) in
    record { sites = omega arith; tables = small.tables; columns = small.columns }
small_after c earlier (Table t) m known once fine small =
    let site = (finds_site c earlier t m known).0 in
    let count : length (c.tables ++ table_from site t ∷ []) ≡ length c.tables + 1 = length-append c.tables (table_from site t ∷ []) in
    let before : length c.tables ≡ length (tables_in earlier) = sym (length-map c.tables (λ (d : TableDef). d.name)) ∙ ap length m.tables in
    let few : length (tables_in earlier) < 32 = below 32 (length (tables_in earlier)) (λ many. fine (limit.Tables, many)) in
    record {
      sites = small.sites;
      tables = omega arith;
      columns = every_with IsNarrow c.tables (table_from site t) small.columns (few_columns earlier (Table t) fine);
    }
small_after c earlier (Index i) m known once fine small = record { sites = small.sites; tables = small.tables; columns = small.columns }

module _ (statements : List CatalogueStatement) (clear : AreClear statements) (i : ℕ) (x : CatalogueStatement) (at : slice_get statements i ≡ Some x) (c : Catalogue) (so : SoFar statements i c) where
  abbrev one : Goes c (take i statements) x
  one = goes c (take i statements) x so.means (known statements clear i x at) (once statements clear i x at)

  pub can_be_added : CanBeAdded c x
  can_be_added = record {
    known = ap is_some one.is;
    small = so.small;
    numbers = false_from_ne_true (has_great_number x) (λ great. within statements clear i x at (limit.Number, great_from x great));
    columns = few_columns (take i statements) x (within statements clear i x at);
  }

  pub one_added : (d : Catalogue) → with_statement c x ≡ Some d → SoFar statements (i + 1) d
  one_added d is =
      let e : Some one.after ≡ Some d = sym one.is ∙ is in
      let same : one.after ≡ d = cc in
      let next : take i statements ++ x ∷ [] ≡ take (i + 1) statements = sym (take_one statements i x at) in
      record {
        left = ap (λ o. option_and_then (λ after. with_statements after (drop (i + 1) statements)) o) (sym is) ∙ ap (with_statements c) (sym (drop_one statements i x at)) ∙ so.left;
        means = subst (λ (l : List CatalogueStatement). Means d l) next (subst (λ (k : Catalogue). Means k (take i statements ++ x ∷ [])) same one.means);
        small = subst (λ (k : Catalogue). IsSmall k) same
            (small_after c (take i statements) x so.means (known statements clear i x at) (once statements clear i x at) (within statements clear i x at) so.small);
      }
