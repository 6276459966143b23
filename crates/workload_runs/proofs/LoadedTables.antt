-- Loading the tables one after the other.
use Rattle.std.proofs.Common.{◌≡◌, ◌<◌, ◌≤◌, ◌+◌, ℕ, zero, suc, ◌⊎◌, inl, inr, Bool, true, List, [], ◌∷◌, ◌++◌, length, map, Some, Err, refl, ap, sym, ◌∙◌, subst, arith}
use Rattle.std.specs.Prelude.{slice_get, slice_set, slice_index_or, unwrap_or, nat_lt, Option, IsSome}
use Rattle.std.specs.List.{list_all}
use Rattle.std.specs.Option.{IsSomeAnd}
use Rattle.std.proofs.lemmas.Bool.{and_parts, ltb-true}
use Rattle.std.proofs.lemmas.List.{length-append, length-set}
use Rattle.std.proofs.lemmas.Option.{slice_get_within}
use Rattle.sb_outside.specs.Records.{Records}
use Rattle.star_model.specs.Data.{table_rows}
use Rattle.star_model.specs.WellFormed.{WellFormedQuery}
use Rattle.star_model.specs.declared.catalogue.Catalogue.{Catalogue}
use Rattle.star_model.specs.declared.catalogue.Value.{Value}
use Rattle.star_model.specs.declared.query.Query.{Query}
use Rattle.star_model.specs.declared.query.QuantDef.{QuantDef}
use Rattle.plan_execute.specs.Loaded.{AreLoaded}
use Rattle.row_store.specs.Faults.{Loads}
use Rattle.row_store.specs.declared.fault.TableFault.{TableFault}
use Rattle.row_store.specs.declared.fault.TableFault.TheVariants as fault
use Rattle.row_store.proofs.Laws.{rows_loaded}
use Rattle.row_steps.specs.declared.tables.Tables.{Tables}
use Rattle.workload_runs.specs.HeldRows.{HoldsRows, HoldRows, AreAllLoaded}
use Rattle.workload_runs.specs.TableRows.{AreRows}

-- records that hold rows have no fault
pub only_memory : (c : Catalogue) (n : ℕ) (records : Records) → n < length c.tables → HoldsRows c n records → (f : TableFault) → Loads c n records (Err f) → f ≡ fault.Memory
only_memory c n records within held f loads = elim (rows_loaded c n records within held.0 held.1 (Err f) loads) [
  | inl is ↦ absurd cc
  | inr is ↦ cc
]

-- ---- lists by places

get_here : {A : Type 0} (xs : List A) (y : A) → slice_get (xs ++ y ∷ []) (length xs) ≡ Some y
get_here [] y = refl
get_here (x ∷ xs) y = get_here xs y

get_before : {A : Type 0} (xs : List A) (y : A) (n : ℕ) → n < length xs → slice_get (xs ++ y ∷ []) n ≡ slice_get xs n
get_before [] y n within = absurd (omega (arith, within))
get_before (x ∷ xs) y zero within = refl
get_before (x ∷ xs) y (suc n) within = get_before xs y n (omega (arith, within))

get_after : {A : Type 0} (xs : List A) (k n : ℕ) (y : A) → k < n → slice_get (slice_set xs k y) n ≡ slice_get xs n
get_after [] k n y later = refl
get_after (x ∷ xs) zero zero y later = absurd (omega (arith, later))
get_after (x ∷ xs) zero (suc n) y later = refl
get_after (x ∷ xs) (suc k) zero y later = absurd (omega (arith, later))
get_after (x ∷ xs) (suc k) (suc n) y later = get_after xs k n y (omega (arith, later))

pub some_at : {A : Type 0} (xs : List A) (n : ℕ) → n < length xs → (x : A) × (slice_get xs n ≡ Some x)
some_at [] n within = absurd (omega (arith, within))
some_at (x ∷ xs) zero within = (x, refl)
some_at (x ∷ xs) (suc n) within = some_at xs n (omega (arith, within))

rows_at : (loaded : List (Option (List (List Value)))) (n : ℕ) (rows : List (List Value)) → slice_get loaded n ≡ Some (Some rows)
    → slice_index_or (map (λ table. unwrap_or table []) loaded) n [] ≡ rows
rows_at [] n rows at = cc
rows_at (table ∷ loaded) zero rows at = let is : table ≡ Some rows = cc in ap (λ t. unwrap_or t []) is
rows_at (table ∷ loaded) (suc n) rows at = rows_at loaded n rows at

-- ---- the loop

module _ (c : Catalogue) (all : List Records) where
  -- the table at this place was loaded from its records
  pub record IsLoadedAt (loaded : List (Option (List (List Value)))) (n : ℕ) (records : Records) : Type 0 where
    pub rows : List (List Value)
    pub at : slice_get loaded n ≡ Some (Some rows)
    pub are : table_rows c n records ≡ Some rows

  -- those before this place were, and the records from it on are still there
  pub record CameTo (left : List Records) (loaded : List (Option (List (List Value)))) (place : ℕ) : Type 0 where
    pub count : length loaded ≡ place
    pub same_length : length left ≡ length all
    pub before : (n : ℕ) (records : Records) → n < place → slice_get all n ≡ Some records → IsLoadedAt loaded n records
    pub left_there : (n : ℕ) → place ≤ n → slice_get left n ≡ slice_get all n

  pub none_yet : CameTo all [] 0
  none_yet = record { count = refl; same_length = refl; before = λ n records less at. absurd (omega (arith, less)); left_there = λ n least. refl }

  pub one_more : (left : List Records) (loaded : List (Option (List (List Value)))) (place : ℕ) (own : Records) (rows : List (List Value)) → CameTo left loaded place
      → slice_get left place ≡ Some own → table_rows c place own ≡ Some rows
      → CameTo (slice_set left place []) (loaded ++ Some rows ∷ []) (place + 1)
  one_more left loaded place own rows came at are =
      let counted = came.count in
      let same = came.same_length in
      let longer : length (loaded ++ Some rows ∷ []) ≡ length loaded + 1 = length-append loaded (Some rows ∷ []) in
      let kept : length (slice_set left place []) ≡ length left = length-set left place [] in
      record {
        count = omega (arith, counted, longer);
        same_length = omega (arith, same, kept);
        before = λ n records less here. elim (old_or_new n place less) [
          | inl old ↦ (
              let was = came.before n records old here in
              record { rows = was.rows; at = get_before loaded (Some rows) n (omega (arith, old, counted)) ∙ was.at; are = was.are }
              )
          | inr new ↦ (
              let own_is : own ≡ records = some_same (sym at ∙ (came.left_there place (omega arith) ∙ (ap (λ m. slice_get all m) (sym new) ∙ here))) in
              record {
                rows = rows;
                at = ap (λ m. slice_get (loaded ++ Some rows ∷ []) m) (new ∙ sym counted) ∙ get_here loaded (Some rows);
                are = ap (λ m. table_rows c m records) new ∙ (ap (λ r. table_rows c place r) (sym own_is) ∙ are);
              }
              )
        ];
        left_there = λ n least. get_after left place n [] (omega (arith, least)) ∙ came.left_there n (omega (arith, least));
      }
    where
      old_or_new : (n place : ℕ) → n < place + 1 → (n < place) ⊎ (n ≡ place)
      old_or_new n place less = grind arith

      some_same : {A : Type 0} {x y : A} → Some x ≡ Some y → x ≡ y
      some_same e = cc

  -- the records that are still there at this place are its own
  pub own_records : (left : List Records) (loaded : List (Option (List (List Value)))) (place : ℕ) (own : Records) → CameTo left loaded place → HoldRows c all
      → slice_get left place ≡ Some own → HoldsRows c place own
  own_records left loaded place own came held at = held place own (sym (came.left_there place (omega arith)) ∙ at)

  pub rows_are : (left : List Records) (loaded : List (Option (List (List Value)))) (place : ℕ) → CameTo left loaded place → length all ≤ place
      → AreRows c all (map (λ table. unwrap_or table []) loaded)
  rows_are left loaded place came all_loaded n records at =
      let own = came.before n records (omega (arith, slice_get_within all n records at, all_loaded)) at in
      own.are ∙ ap (λ rows. Some rows) (sym (rows_at loaded n own.rows own.at))

  pub tables_are : (left : List Records) (tables : Tables) (place : ℕ) → CameTo left tables.loaded place → length all ≤ place → length all ≡ length c.tables → AreAllLoaded c tables
  tables_are left tables place came all_loaded same n within =
      let found = some_at all n (omega (arith, same, within)) in
      let own = came.before n found.0 (omega (arith, same, within, all_loaded)) found.1 in
      subst (λ (o : Option (Option (List (List Value)))). IsSomeAnd o IsSome) (sym own.at) refl

passes_at : {A : Type 0} (test : A → Bool) (xs : List A) (n : ℕ) (x : A) → list_all test xs ≡ true → slice_get xs n ≡ Some x → test x ≡ true
passes_at test [] n x all at = cc
passes_at test (y ∷ xs) zero x all at = let same : y ≡ x = cc in ap test (sym same) ∙ (and_parts (test y) (list_all test xs) all).0
passes_at test (y ∷ xs) (suc n) x all at = passes_at test xs n x (and_parts (test y) (list_all test xs) all).1 at

-- each quantifier is of a table of the catalogue
pub quantifier_below : (q : Query) → WellFormedQuery q → (n : ℕ) (d : QuantDef) → slice_get q.quants n ≡ Some d → d.table < length q.catalogue.tables
quantifier_below q formed n d at =
    ltb-true d.table (length q.catalogue.tables) (passes_at (λ (d : QuantDef). nat_lt d.table (length q.catalogue.tables)) q.quants n d formed.tables at)

-- the tables of any quantifiers are loaded where each of the catalogue is
pub quantifiers_loaded : (q : Query) → WellFormedQuery q → (tables : Tables) (quants : ℕ) → AreAllLoaded q.catalogue tables → AreLoaded q tables quants
quantifiers_loaded q formed tables quants all n in_set d at = all d.table (quantifier_below q formed n d at)
