-- What is looked up where statements are resolved.
use Rattle.std.proofs.Common.{◌≡◌, ◌<◌, ℕ, zero, suc, ◌+◌, Bool, false, List, [], ◌∷◌, map, length, get_or, Option, Some, None, refl, sym, ap, ◌∙◌, arith}
use Rattle.std.specs.Prelude.{IsSome, position, is_some, slice_get}
use Rattle.std.specs.List.{position_from, list_any}
use Rattle.std.proofs.lemmas.Bool.{both_ways, or_parts, ltb-false}
use Rattle.std.proofs.lemmas.Option.{slice_get_read}
use Rattle.star_model.specs.Numbers.{top, cut}
use Rattle.star_model.specs.declared.catalogue.ColumnDef.{ColumnDef}
use Rattle.std.proofs.lemmas.List.{length-map}
use Rattle.std.proofs.lemmas.Iterator.Adapters.{position_from-zero}
use Rattle.star_model.specs.Vectors.{same_numbers}
use Rattle.star_model.specs.Names.{place_of}
use Rattle.spelling.specs.Names.{all_of}
use Rattle.star_model.specs.declared.catalogue.TableDef.{TableDef}
use Rattle.catalogue.specs.Catalogues.{IndexPart, column_names}
use Rattle.catalogue.specs.Resolving.{resolved_index}
use Rattle.catalogue.specs.declared.words.ColumnWords.{ColumnWords}
use Rattle.catalogue.specs.Words.{column_of}
use Rattle.catalogue.specs.LimitTests.{is_great, is_great_column}
use Rattle.catalogue.proofs.FirstLaws.{read_at}
use Rattle.catalogue.proofs.Places.{found_place}

-- ---- one name

module _ {A : Type 0} (view : A → List ℕ) (name : List ℕ) where
  viewed : (k : ℕ) (items : List A) → position_from (λ x. same_numbers name (view x)) k items ≡ position_from (same_numbers name) k (map view items)
  viewed k [] = refl
  viewed k (x ∷ items) = rw (viewed (k + 1) items) refl

  place_viewed : (items : List A) → position (λ x. same_numbers name (view x)) items ≡ place_of name (map view items)
  place_viewed items = position_from-zero (λ x. same_numbers name (view x)) items ∙ viewed 0 items

  -- what was found of a name that is there
  pub found_some : (items : List A) (place : ℕ) → Some place ≡ position (λ x. same_numbers name (view x)) items → place_of name (map view items) ≡ Some place
  found_some items place is = sym (is ∙ place_viewed items)

  pub found_none : (items : List A) (found : Option ℕ) → found ≡ position (λ x. same_numbers name (view x)) items → found ≡ None → IsSome (place_of name (map view items)) → ⊥
  found_none items found is none some =
      both_ways (is_some (place_of name (map view items))) (ap is_some (sym (place_viewed items) ∙ sym is ∙ none)) some

  pub found_within : (items : List A) (place : ℕ) → place_of name (map view items) ≡ Some place → place < length items
  found_within items place is = omega (arith, (found_place name (map view items) place is).within, length-map items view)

-- ---- columns

none_at : {A : Type 0} (test : A → Bool) (items : List A) (i : ℕ) (x : A) → list_any test items ≡ false → slice_get items i ≡ Some x → test x ≡ false
none_at test [] i x none at = absurd cc
none_at test (y ∷ items) zero x none at = let same : x ≡ y = cc in ap test same ∙ (or_parts (test y) (list_any test items) none).0
none_at test (y ∷ items) (suc i) x none at = none_at test items i x (or_parts (test y) (list_any test items) none).1 at

pub small_column : (columns : List ColumnWords) (i : ℕ) (c : ColumnWords) → list_any is_great_column (map column_of columns) ≡ false → i < length columns → c ≡ get_or columns i c
    → is_great_column (column_of c) ≡ false
small_column columns i c none less is = none_at is_great_column (map column_of columns) i (column_of c) none (read_at column_of columns i c less is)

-- ---- indexes

abbrev table_name : TableDef → List ℕ
table_name t = t.name

pub index_resolved : (tables : List TableDef) (i : IndexPart) (place : ℕ) (t : TableDef) (columns : List ℕ) → place_of i.table (map table_name tables) ≡ Some place → slice_get tables place ≡ Some t
    → all_of (map (λ name. place_of name (column_names t)) i.columns) ≡ Some columns → resolved_index tables i ≡ Some (record { name = i.name; table = place; columns = columns; pages = i.pages })
index_resolved tables i place t columns found at all = rw (found, at, all) refl

cut_small : (n : ℕ) → is_great n ≡ false → cut n ≡ n
cut_small n small = omega (arith, ltb-false top n small)

pub index_made : (tables : List TableDef) (i : IndexPart) (name wanted : List ℕ) (place at : ℕ) (t : TableDef) (ds : List ColumnDef) (names : List (List ℕ)) (columns : List ℕ) (pages : ℕ)
    → name ≡ i.name → pages ≡ cut i.pages → is_great i.pages ≡ false → wanted ≡ i.table → place_of wanted (map table_name tables) ≡ Some place → at ≡ place → t ≡ get_or tables at t → ds ≡ t.columns
    → names ≡ i.columns → all_of (map (λ n. place_of n (map (λ (d : ColumnDef). d.name) ds)) names) ≡ Some columns
    → resolved_index tables i ≡ Some (record { name = name; table = place; columns = columns; pages = pages })
index_made tables i name wanted place at t ds names columns pages is_name is_pages small is_wanted found is_at is_t is_ds is_names all =
    let found' : place_of i.table (map table_name tables) ≡ Some place = rw (sym is_wanted) found in
    let less : place < length tables = found_within table_name i.table tables place found' in
    let there : slice_get tables place ≡ Some t = slice_get_read tables (length tables) place t refl less (is_t ∙ ap (λ n. get_or tables n t) is_at) in
    let all' : all_of (map (λ n. place_of n (column_names t)) i.columns) ≡ Some columns = rw (sym is_ds, sym is_names) all in
    rw (is_name, is_pages, cut_small i.pages small) (index_resolved tables i place t columns found' there all')
