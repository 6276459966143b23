-- What statements without a fault mean is a well-formed catalogue.
use Rattle.std.proofs.Common.{◌≡◌, ◌≤◌, ◌<◌, ◌+◌, ℕ, zero, suc, Bool, true, false, not, nat_lt, nat_le, nat_eq, List, [], ◌∷◌, ◌++◌, map, length, Option, Some, None, refl, sym, ap, ◌∙◌, subst, arith, le-leb, append-nil}
use Rattle.std.specs.Prelude.{◌||◌, ◌&&◌, slice_get}
use Rattle.std.specs.List.{list_all, list_any}
use Rattle.std.specs.Option.{option_map, option_map_or}
use Rattle.std.proofs.lemmas.Bool.{and_parts, and_from, or_parts, not_from_false, false_from_ne_true, lt-ltb, eqb-true}
use Rattle.std.proofs.lemmas.List.{length-map}
use Rattle.std.proofs.lemmas.List.Sums.{list_all-from_AllPass}
use Rattle.std.proofs.lemmas.Option.{option_and_then_some}
use Rattle.sb_text.specs.Bytes.{begins_word, is_in_word}
use Rattle.sb_text.specs.Forms.{IsWord}
use Rattle.star_model.specs.Numbers.{top}
use Rattle.star_model.specs.Vectors.{same_numbers}
use Rattle.star_model.specs.WellFormed as well
use Rattle.star_model.specs.WellFormed.{is_name, is_number, is_site, is_column, differ, Each, WellFormedTable, WellFormedIndex, WellFormedCatalogue}
use Rattle.star_model.specs.declared.catalogue.Catalogue.{Catalogue}
use Rattle.star_model.specs.declared.catalogue.SiteDef.{SiteDef}
use Rattle.star_model.specs.declared.catalogue.TableDef.{TableDef}
use Rattle.star_model.specs.declared.catalogue.ColumnDef.{ColumnDef}
use Rattle.star_model.specs.declared.catalogue.IndexDef.{IndexDef}
use Rattle.spelling.specs.Lexemes.{comma, joined_by}
use Rattle.star_model.specs.Every.{Every, HasItem}
use Rattle.spelling.specs.Layout.{IsLexeme}
use Rattle.star_model.specs.Names.{is_among, place_of}
use Rattle.spelling.specs.Names.{all_of}
use Rattle.spelling.specs.Firsts.{NoneFrom, NoneHas}
use Rattle.catalogue.specs.Catalogues.{TablePart, IndexPart, CatalogueStatement, Site, Table, Index, column_lexemes, catalogue_lexemes, HasColumns, site_names, table_names, column_names, table_from, with_statement, with_statements, nothing_defined, catalogue_of}
use Rattle.spelling.proofs.Laws.{formed_statements}
use Rattle.star_model.specs.declared.faults.LimitKind.TheVariants as limit
use Rattle.catalogue.specs.Defined.{sites_in, tables_in, indexes_in, names_of, is_defined, has_column_twice, DefinesTwice}
use Rattle.catalogue.specs.Beyond.{IsBeyond, IsFileName}
use Rattle.catalogue.specs.LimitTests.{is_great, is_great_column, has_great_number, is_long, is_long_column, has_long_name, is_file_name}
use Rattle.catalogue.specs.Faults.{SaysStatements}
use Rattle.catalogue.proofs.DefinedLaws.{sites_in-append, tables_in-append, indexes_in-append}
use Rattle.catalogue.proofs.DifferLaws.{differ_more}
use Rattle.catalogue.proofs.LexemeLimits.{great_from, long_from}
use Rattle.catalogue.proofs.LimitLaws.{file_name_from, file_name_to}
use Rattle.catalogue.proofs.Places.{Stands, found_place}
use Rattle.star_model.proofs.Laws.{same_self}

-- ---- names and numbers

swapped : (x y z : Bool) → (x || y || z) ≡ (y || x || z)
swapped true true z = refl
swapped true false z = refl
swapped false true z = refl
swapped false false z = refl

same_letter : (b : ℕ) → well.is_letter b ≡ begins_word b
same_letter b = swapped (well.is_between 97 122 b) (well.is_between 65 90 b) _

all_in : (bs : List ℕ) → list_all (λ c. well.is_letter c || well.is_digit c) bs ≡ list_all is_in_word bs
all_in [] = refl
all_in (b ∷ bs) = λ i. (same_letter b i || well.is_digit b) && all_in bs i

a_word : (bytes : List ℕ) → IsWord bytes → well.is_word bytes ≡ true
a_word [] word = absurd word
a_word (b ∷ rest) word = and_from _ _ (same_letter b ∙ word.0) (all_in rest ∙ list_all-from_AllPass is_in_word rest word.1)

at_most : (n most : ℕ) → nat_lt most n ≡ false → nat_le n most ≡ true
at_most n most e = le-leb n most (less n most (λ more. let t = lt-ltb most n more in absurd cc)) where
  less : (n most : ℕ) → (most < n → ⊥) → n ≤ most
  less n most never = omega arith

a_name : (bytes : List ℕ) → IsWord bytes → is_long bytes ≡ false → is_name bytes ≡ true
a_name bytes word short = and_from _ _ (a_word bytes word) (at_most (length bytes) 64 short)

a_number : (n : ℕ) → is_great n ≡ false → is_number n ≡ true
a_number n small = at_most n top small

columns_formed : (columns : List ColumnDef) → Every (λ (c : ColumnDef). IsWord c.name) columns → list_any is_long_column columns ≡ false → list_any is_great_column columns ≡ false
    → list_all is_column columns ≡ true
columns_formed [] words short small = refl
columns_formed (c ∷ columns) words short small =
    let s = or_parts (is_long_column c) (list_any is_long_column columns) short in
    let g = or_parts (is_great_column c) (list_any is_great_column columns) small in
    let n = or_parts (is_great c.width) (is_great c.distinct) g.0 in
    and_from _ _ (and_from _ _ (and_from _ _ (a_name c.name words.0 s.0) (a_number c.width n.0)) (a_number c.distinct n.1)) (columns_formed columns words.1 s.1 g.1)

-- ---- the lexemes of a statement

every_front : {A : Type 0} (P : A → Type 0) (xs ys : List A) → Every P (xs ++ ys) → Every P xs
every_front P [] ys every = tt
every_front P (x ∷ xs) ys every = (every.0, every_front P xs ys every.1)

column_words : (columns : List ColumnDef) → Every IsLexeme (joined_by comma (map column_lexemes columns)) → Every (λ (c : ColumnDef). IsWord c.name) columns
column_words [] every = tt
column_words (c ∷ []) every = (every.0, tt)
column_words (c ∷ d ∷ columns) every = (every.0, column_words (d ∷ columns) every.1.1.1.1.1.1.1)

-- a statement without a fault, behind those before it
record IsClear (before : List CatalogueStatement) (s : CatalogueStatement) : Type 0 where
  pub once : DefinesTwice before s → ⊥
  pub within : IsBeyond before s → ⊥
  pub columns : HasColumns s
  pub words : Every IsLexeme (catalogue_lexemes s)

module _ (before : List CatalogueStatement) (s : CatalogueStatement) (clear : IsClear before s) where
  small : has_great_number s ≡ false
  small = false_from_ne_true (has_great_number s) (λ great. clear.within (limit.Number, great_from s great))

  short : has_long_name s ≡ false
  short = false_from_ne_true (has_long_name s) (λ long. clear.within (limit.Name, long_from s long))

  new : is_defined before s ≡ false
  new = false_from_ne_true (is_defined before s) (λ defined. clear.once (left (is_defined before s) (has_column_twice s) defined)) where
    left : (x y : Bool) → x ≡ true → (x || y) ≡ true
    left true y e = refl
    left false y e = absurd cc

  columns_once : has_column_twice s ≡ false
  columns_once = false_from_ne_true (has_column_twice s) (λ twice. clear.once (right (is_defined before s) (has_column_twice s) twice)) where
    right : (x y : Bool) → y ≡ true → (x || y) ≡ true
    right true y e = refl
    right false y e = e

not_not : (b : Bool) → not b ≡ false → b ≡ true
not_not true e = refl
not_not false e = absurd cc

-- ---- one item more

list_all_more : {A : Type 0} (test : A → Bool) (xs : List A) (x : A) → list_all test xs ≡ true → test x ≡ true → list_all test (xs ++ x ∷ []) ≡ true
list_all_more test [] x all here = and_from _ _ here refl
list_all_more test (y ∷ xs) x all here = let p = and_parts _ _ all in and_from _ _ p.0 (list_all_more test xs x p.1 here)

each_more : {A : Type 0} (P : A → Type 0) (xs : List A) (x : A) → Each P xs → P x → Each P (xs ++ x ∷ [])
each_more P [] x each here = Each.more x [] here Each.none
each_more P (y ∷ xs) x (Each.more _ _ p each) here = Each.more y (xs ++ x ∷ []) p (each_more P xs x each here)

each_map : {A : Type 0} (P Q : A → Type 0) (xs : List A) → ((x : A) → P x → Q x) → Each P xs → Each Q xs
each_map P Q [] f each = Each.none
each_map P Q (x ∷ xs) f (Each.more _ _ p each) = Each.more x xs (f x p) (each_map P Q xs f each)

map_more : {A B : Type 0} (f : A → B) (xs : List A) (x : A) → map f (xs ++ x ∷ []) ≡ map f xs ++ f x ∷ []
map_more f [] x = refl
map_more f (y ∷ xs) x = ap (λ l. f y ∷ l) (map_more f xs x)

length_more : {A : Type 0} (xs : List A) (x : A) → length (xs ++ x ∷ []) ≡ length xs + 1
length_more [] x = refl
length_more (y ∷ xs) x = let e = length_more xs x in omega arith

get_before : {A : Type 0} (xs : List A) (x : A) (n : ℕ) → n < length xs → slice_get (xs ++ x ∷ []) n ≡ slice_get xs n
get_before [] x n less = absurd (omega arith)
get_before (y ∷ xs) x zero less = refl
get_before (y ∷ xs) x (suc n) less = get_before xs x n (omega arith)

site_more : (sites more : ℕ) → sites ≤ more → (t : TableDef) → WellFormedTable sites t → WellFormedTable more t
site_more sites more less t formed = record {
  name = formed.name;
  site = let before = formed.site in omega arith;
  numbers = formed.numbers;
  file = formed.file;
  file_length = formed.file_length;
  some_columns = formed.some_columns;
  columns = formed.columns;
  columns_differ = formed.columns_differ;
}

table_more : (tables : List TableDef) (t : TableDef) (i : IndexDef) → WellFormedIndex tables i → WellFormedIndex (tables ++ t ∷ []) i
table_more tables t i formed =
    let same : well.columns_in (tables ++ t ∷ []) i.table ≡ well.columns_in tables i.table =
    ap (λ (found : Option TableDef). option_map_or (λ (x : TableDef). length x.columns) found 0) (get_before tables t i.table formed.table)
    in record {
      name = formed.name;
      table = let before = formed.table in omega (arith, length_more tables t);
      pages = formed.pages;
      some_columns = formed.some_columns;
      columns = subst (λ (n : ℕ). list_all (λ c. nat_lt c n) i.columns ≡ true) (sym same) formed.columns;
      columns_differ = formed.columns_differ;
    }

names_differ : (names : List (List ℕ)) (name : List ℕ) → differ same_numbers names ≡ true → is_among names name ≡ false → differ same_numbers (names ++ name ∷ []) ≡ true
names_differ names name differs new = rw (differ_more names name, differs, new) refl

-- ---- the columns of an index

some_lists : {A : Type 0} (xs ys : List A) → Some xs ≡ Some ys → xs ≡ ys
some_lists xs ys e = cc

-- the places of all names, one by one
record Placed (columns : List (List ℕ)) (name : List ℕ) (names : List (List ℕ)) (places : List ℕ) : Type 0 where
  pub place : ℕ
  pub later : List ℕ
  pub is : places ≡ place ∷ later
  pub first : place_of name columns ≡ Some place
  pub others : all_of (map (λ n. place_of n columns) names) ≡ Some later

taken_apart : (columns : List (List ℕ)) (name : List ℕ) (names : List (List ℕ)) (places : List ℕ) → all_of (map (λ n. place_of n columns) (name ∷ names)) ≡ Some places → Placed columns name names places
taken_apart columns name names places is = first (place_of name columns) refl is where
  second : (place : ℕ) → place_of name columns ≡ Some place → (later : Option (List ℕ)) → all_of (map (λ n. place_of n columns) names) ≡ later
      → option_map (λ xs. place ∷ xs) later ≡ Some places → Placed columns name names places
  second place there None found e = absurd cc
  second place there (Some later) found e = record { place = place; later = later; is = sym (some_lists (place ∷ later) places e); first = there; others = found }

  first : (found : Option ℕ) → place_of name columns ≡ found → all_of (found ∷ map (λ n. place_of n columns) names) ≡ Some places → Placed columns name names places
  first None none e = absurd cc
  first (Some place) there e = second place there (all_of (map (λ n. place_of n columns) names)) refl e

all_within : (columns : List (List ℕ)) (names : List (List ℕ)) (places : List ℕ) → all_of (map (λ name. place_of name columns) names) ≡ Some places
    → (list_all (λ c. nat_lt c (length columns)) places ≡ true) × (length places ≡ length names)
all_within columns [] places is =
    let e : [] ≡ places = some_lists [] places is in
    (subst (λ (l : List ℕ). list_all (λ c. nat_lt c (length columns)) l ≡ true) e refl, sym (ap (λ (l : List ℕ). length l) e))
all_within columns (n ∷ names) places is =
    let p = taken_apart columns n names places is in
    let stands = found_place n columns p.place p.first in
    let rest = all_within columns names p.later p.others in (
      subst (λ (l : List ℕ). list_all (λ c. nat_lt c (length columns)) l ≡ true) (sym p.is) (and_from _ _ (lt-ltb p.place (length columns) stands.within) rest.0),
      ap (λ (l : List ℕ). length l) p.is ∙ ap (λ m. suc m) rest.1,
    )

-- another name has another place
other_place : (columns : List (List ℕ)) (a b : List ℕ) (p q : ℕ) → place_of a columns ≡ Some p → place_of b columns ≡ Some q → same_numbers a b ≡ false → nat_eq p q ≡ false
other_place columns a b p q here there other = false_from_ne_true (nat_eq p q) (λ equal.
    let same_place : p ≡ q = eqb-true p q equal in
    let x : slice_get columns p ≡ Some a = Stands.there (found_place a columns p here) in
    let y : slice_get columns q ≡ Some b = Stands.there (found_place b columns q there) in
    let e : Some a ≡ Some b = sym x ∙ ap (λ n. slice_get columns n) same_place ∙ y in
    let same : a ≡ b = cc in
    let self = same_self b in
    let clash : same_numbers b b ≡ false = subst (λ (n : List ℕ). same_numbers n b ≡ false) same other in cc)

others_differ : (columns : List (List ℕ)) (name : List ℕ) (place : ℕ) → place_of name columns ≡ Some place
    → (names : List (List ℕ)) (places : List ℕ) → all_of (map (λ n. place_of n columns) names) ≡ Some places
    → list_all (λ other. not (same_numbers name other)) names ≡ true → list_all (λ other. not (nat_eq place other)) places ≡ true
others_differ columns name place here [] places is differs = subst (λ (l : List ℕ). list_all (λ other. not (nat_eq place other)) l ≡ true) (some_lists [] places is) refl
others_differ columns name place here (n ∷ names) places is differs =
    let p = taken_apart columns n names places is in
    let d = and_parts _ _ differs in
    let first = other_place columns name n place p.place here p.first (not_same (same_numbers name n) d.0) in
    subst (λ (l : List ℕ). list_all (λ other. not (nat_eq place other)) l ≡ true) (sym p.is)
    (and_from _ _ (not_from_false (nat_eq place p.place) first) (others_differ columns name place here names p.later p.others d.1))
  where
    not_same : (b : Bool) → not b ≡ true → b ≡ false
    not_same true e = absurd cc
    not_same false e = refl

places_differ : (columns : List (List ℕ)) (names : List (List ℕ)) (places : List ℕ) → all_of (map (λ name. place_of name columns) names) ≡ Some places
    → differ same_numbers names ≡ true → differ nat_eq places ≡ true
places_differ columns [] places is differs = subst (λ (l : List ℕ). differ nat_eq l ≡ true) (some_lists [] places is) refl
places_differ columns (n ∷ names) places is differs =
    let p = taken_apart columns n names places is in
    let d = and_parts _ _ differs in
    subst (λ (l : List ℕ). differ nat_eq l ≡ true) (sym p.is)
    (and_from _ _ (others_differ columns n p.place p.first names p.later p.others d.0) (places_differ columns names p.later p.others d.1))

-- ---- statements, one by one

-- what the statements define has these names, and is well formed
record Means (before : List CatalogueStatement) (c : Catalogue) : Type 0 where
  pub sites : site_names c ≡ sites_in before
  pub tables : table_names c ≡ tables_in before
  pub indexes : map (λ (i : IndexDef). i.name) c.indexes ≡ indexes_in before
  pub formed : WellFormedCatalogue c

some_catalogues : (c d : Catalogue) → Some c ≡ Some d → c ≡ d
some_catalogues c d e = cc

same_length : {A : Type 0} (f : A → List ℕ) (xs : List A) (names : List (List ℕ)) → map f xs ≡ names → length xs ≡ length names
same_length f xs names is = sym (length-map xs f) ∙ ap (λ (l : List (List ℕ)). length l) is

positive : {A : Type 0} (xs : List A) → HasItem xs → 0 < length xs
positive [] some = absurd some
positive (x ∷ xs) some = omega arith

less_than : (most n m : ℕ) → m ≡ n → (most ≤ n → ⊥) → m < most
less_than most n m same never = omega arith

no_more_than : (most n : ℕ) → (most < n → ⊥) → n ≤ most
no_more_than most n never = omega arith

module _ (before : List CatalogueStatement) (c : Catalogue) (means : Means before c) where
  old : WellFormedCatalogue c
  old = means.formed

  names_new : {A : Type 0} (f : A → List ℕ) (xs : List A) (x : A) (names : List (List ℕ)) → map f xs ≡ names → differ same_numbers (map f xs) ≡ true → is_among names (f x) ≡ false
      → differ same_numbers (map f (xs ++ x ∷ [])) ≡ true
  names_new f xs x names is differs new =
      subst (λ (l : List (List ℕ)). differ same_numbers l ≡ true) (sym (map_more f xs x))
      (names_differ (map f xs) (f x) differs (subst (λ (l : List (List ℕ)). is_among l (f x) ≡ false) (sym is) new))

  after_site : (s : SiteDef) → IsClear before (Site s) → Means (before ++ Site s ∷ []) (record c { sites = c.sites ++ s ∷ [] })
  after_site s clear =
      let numbers = or_parts (is_great s.cpu) (is_great s.net) (small before (Site s) clear) in
      let word : IsWord s.name = clear.words.1.0 in
      let few : length c.sites < 8 = less_than 8 (length (sites_in before)) (length c.sites) (same_length (λ (x : SiteDef). x.name) c.sites (sites_in before) means.sites) (λ over. clear.within (limit.Sites, over)) in
      let count = length_more c.sites s in
      record {
        sites = map_more (λ (x : SiteDef). x.name) c.sites s ∙ ap (λ (l : List (List ℕ)). l ++ s.name ∷ []) means.sites ∙ sym (sites_in-append before (Site s ∷ []));
        tables = means.tables ∙ sym (append-nil (tables_in before)) ∙ sym (tables_in-append before (Site s ∷ []));
        indexes = means.indexes ∙ sym (append-nil (indexes_in before)) ∙ sym (indexes_in-append before (Site s ∷ []));
        formed = record {
          few_sites = omega (arith, few, count);
          few_tables = old.few_tables;
          few_indexes = old.few_indexes;
          sites = list_all_more is_site c.sites s old.sites (and_from _ _ (and_from _ _ (a_name s.name word (short before (Site s) clear)) (a_number s.cpu numbers.0)) (a_number s.net numbers.1));
          tables = each_map (WellFormedTable (length c.sites)) (WellFormedTable (length (c.sites ++ s ∷ []))) c.tables (λ t formed. site_more (length c.sites) (length (c.sites ++ s ∷ [])) (omega (arith, count)) t formed) old.tables;
          indexes = old.indexes;
          sites_differ = names_new (λ (x : SiteDef). x.name) c.sites s (sites_in before) means.sites old.sites_differ (new before (Site s) clear);
          tables_differ = old.tables_differ;
          indexes_differ = old.indexes_differ;
        };
      }

  module _ (t : TablePart) (clear : IsClear before (Table t)) where
    file_of : IsFileName t.file
    file_of = by (is_file_name t.file) refl where
      by : (b : Bool) → is_file_name t.file ≡ b → IsFileName t.file
      by true e = file_name_from t.file e
      by false e = absurd (clear.within (limit.File, λ name. let e' = file_name_to t.file name in cc))

    module _ (site : ℕ) (found : place_of t.site (site_names c) ≡ Some site) where
      abbrev table : TableDef
      table = table_from site t

      formed_table : WellFormedTable (length c.sites) table
      formed_table =
          let great = or_parts (is_great t.rows || is_great t.pages) (list_any is_great_column t.columns) (small before (Table t) clear) in
          let numbers = or_parts (is_great t.rows) (is_great t.pages) great.0 in
          let long = or_parts (is_long t.name || is_long t.site) (list_any is_long_column t.columns) (short before (Table t) clear) in
          let names = or_parts (is_long t.name) (is_long t.site) long.0 in
          let inside = every_front IsLexeme (joined_by comma (map column_lexemes t.columns)) _ clear.words.1.1.1.1.1.1.1.1.1.1.1 in
          let place = Stands.within (found_place t.site (site_names c) site found) in
          let sites = length-map c.sites (λ (x : SiteDef). x.name) in
          record {
            name = a_name t.name clear.words.1.0 names.0;
            site = omega (arith, place, sites);
            numbers = and_from _ _ (a_number t.rows numbers.0) (a_number t.pages numbers.1);
            file = file_of.utf8;
            file_length = (file_of.some, file_of.few);
            some_columns = (positive t.columns clear.columns, no_more_than 32 (length t.columns) (λ over. clear.within (limit.Columns, over)));
            columns = columns_formed t.columns (column_words t.columns inside) long.1 great.1;
            columns_differ = not_not (differ same_numbers (names_of t.columns)) (columns_once before (Table t) clear);
          }

      table_at : (d : Catalogue) → record c { tables = c.tables ++ table ∷ [] } ≡ d → Means (before ++ Table t ∷ []) d
      table_at d e =
          let few : length c.tables < 32 = less_than 32 (length (tables_in before)) (length c.tables) (same_length (λ (x : TableDef). x.name) c.tables (tables_in before) means.tables) (λ over. clear.within (limit.Tables, over)) in
          let count = length_more c.tables table in
          subst (λ (x : Catalogue). Means (before ++ Table t ∷ []) x) e
          (record {
            sites = means.sites ∙ sym (append-nil (sites_in before)) ∙ sym (sites_in-append before (Table t ∷ []));
            tables = map_more (λ (x : TableDef). x.name) c.tables table ∙ ap (λ (l : List (List ℕ)). l ++ t.name ∷ []) means.tables ∙ sym (tables_in-append before (Table t ∷ []));
            indexes = means.indexes ∙ sym (append-nil (indexes_in before)) ∙ sym (indexes_in-append before (Table t ∷ []));
            formed = record {
              few_sites = old.few_sites;
              few_tables = omega (arith, few, count);
              few_indexes = old.few_indexes;
              sites = old.sites;
              tables = each_more (WellFormedTable (length c.sites)) c.tables table old.tables formed_table;
              indexes = each_map (WellFormedIndex c.tables) (WellFormedIndex (c.tables ++ table ∷ [])) c.indexes (λ i formed. table_more c.tables table i formed) old.indexes;
              sites_differ = old.sites_differ;
              tables_differ = names_new (λ (x : TableDef). x.name) c.tables table (tables_in before) means.tables old.tables_differ (new before (Table t) clear);
              indexes_differ = old.indexes_differ;
            };
          })

    after_table : (d : Catalogue) → with_statement c (Table t) ≡ Some d → Means (before ++ Table t ∷ []) d
    after_table d is = option_and_then_some _ (place_of t.site (site_names c)) d is (λ site found e. table_at site found d (some_catalogues _ d e))

  module _ (i : IndexPart) (clear : IsClear before (Index i)) where
    module _ (place : ℕ) (found : place_of i.table (table_names c) ≡ Some place) (table : TableDef) (there : slice_get c.tables place ≡ Some table)
        (columns : List ℕ) (placed : all_of (map (λ name. place_of name (column_names table)) i.columns) ≡ Some columns) where
      abbrev index : IndexDef
      index = record { name = i.name; table = place; columns = columns; pages = i.pages }

      formed_index : WellFormedIndex c.tables index
      formed_index =
          let long = or_parts (is_long i.name || is_long i.table) (list_any is_long i.columns) (short before (Index i) clear) in
          let names = or_parts (is_long i.name) (is_long i.table) long.0 in
          let inside = all_within (column_names table) i.columns columns placed in
          let stands = Stands.within (found_place i.table (table_names c) place found) in
          let tables = length-map c.tables (λ (x : TableDef). x.name) in
          let some = positive i.columns clear.columns in
          let few = no_more_than 8 (length i.columns) (λ over. clear.within (limit.IndexColumns, over)) in
          let count : length (column_names table) ≡ well.columns_in c.tables place =
          length-map table.columns (λ (x : ColumnDef). x.name) ∙ sym (ap (λ (o : Option TableDef). option_map_or (λ (x : TableDef). length x.columns) o 0) there)
          in record {
            name = a_name i.name clear.words.1.0 names.0;
            table = omega (arith, stands, tables);
            pages = a_number i.pages (small before (Index i) clear);
            some_columns = (omega (arith, some, inside.1), omega (arith, few, inside.1));
            columns = subst (λ (n : ℕ). list_all (λ c. nat_lt c n) columns ≡ true) count inside.0;
            columns_differ = places_differ (column_names table) i.columns columns placed (not_not (differ same_numbers i.columns) (columns_once before (Index i) clear));
          }

      index_at : (d : Catalogue) → record c { indexes = c.indexes ++ index ∷ [] } ≡ d → Means (before ++ Index i ∷ []) d
      index_at d e =
          let few : length c.indexes < 64 = less_than 64 (length (indexes_in before)) (length c.indexes) (same_length (λ (x : IndexDef). x.name) c.indexes (indexes_in before) means.indexes) (λ over. clear.within (limit.Indexes, over)) in
          let count = length_more c.indexes index in
          subst (λ (x : Catalogue). Means (before ++ Index i ∷ []) x) e
          (record {
            sites = means.sites ∙ sym (append-nil (sites_in before)) ∙ sym (sites_in-append before (Index i ∷ []));
            tables = means.tables ∙ sym (append-nil (tables_in before)) ∙ sym (tables_in-append before (Index i ∷ []));
            indexes = map_more (λ (x : IndexDef). x.name) c.indexes index ∙ ap (λ (l : List (List ℕ)). l ++ i.name ∷ []) means.indexes ∙ sym (indexes_in-append before (Index i ∷ []));
            formed = record {
              few_sites = old.few_sites;
              few_tables = old.few_tables;
              few_indexes = omega (arith, few, count);
              sites = old.sites;
              tables = old.tables;
              indexes = each_more (WellFormedIndex c.tables) c.indexes index old.indexes formed_index;
              sites_differ = old.sites_differ;
              tables_differ = old.tables_differ;
              indexes_differ = names_new (λ (x : IndexDef). x.name) c.indexes index (indexes_in before) means.indexes old.indexes_differ (new before (Index i) clear);
            };
          })

    after_index : (d : Catalogue) → with_statement c (Index i) ≡ Some d → Means (before ++ Index i ∷ []) d
    after_index d is =
        option_and_then_some _ (place_of i.table (table_names c)) d is (λ place found after_place.
        option_and_then_some _ (slice_get c.tables place) d after_place (λ table there after_there.
        option_and_then_some _ (all_of (map (λ name. place_of name (column_names table)) i.columns)) d after_there (λ columns placed e.
        index_at place found table there columns placed d (some_catalogues _ d e))))

  after : (s : CatalogueStatement) (d : Catalogue) → IsClear before s → with_statement c s ≡ Some d → Means (before ++ s ∷ []) d
  after (Site s) d clear is = subst (λ (x : Catalogue). Means (before ++ Site s ∷ []) x) (some_catalogues _ d is) (after_site s clear)
  after (Table t) d clear is = after_table t clear d is
  after (Index i) d clear is = after_index i clear d is

-- without a fault among the later ones
all_means : (before later : List CatalogueStatement) (c d : Catalogue) → Means before c → NoneFrom DefinesTwice before later → NoneFrom IsBeyond before later
    → Every HasColumns later → Every (Every IsLexeme) (map catalogue_lexemes later) → with_statements c later ≡ Some d → WellFormedCatalogue d
all_means before [] c d means once within columns words is = subst (λ (x : Catalogue). WellFormedCatalogue x) (some_catalogues c d is) means.formed
all_means before (s ∷ later) c d means once within columns words is =
    option_and_then_some (λ x. with_statements x later) (with_statement c s) d is (λ x made rest.
    all_means (before ++ s ∷ []) later x d
    (after before c means s x (record { once = once.0; within = within.0; columns = columns.0; words = words.0 }) made)
    once.1 within.1 columns.1 words.1 rest)

nothing_means : Means [] nothing_defined
nothing_means = record {
  sites = refl;
  tables = refl;
  indexes = refl;
  formed = record {
    few_sites = omega arith;
    few_tables = omega arith;
    few_indexes = omega arith;
    sites = refl;
    tables = Each.none;
    indexes = Each.none;
    sites_differ = refl;
    tables_differ = refl;
    indexes_differ = refl;
  };
}

-- what statements mean that define no name twice and keep the limits is well formed
pub formed : (text : List ℕ) (statements : List CatalogueStatement) → SaysStatements text statements → NoneHas DefinesTwice statements → NoneHas IsBeyond statements
    → (c : Catalogue) → catalogue_of statements ≡ Some c → WellFormedCatalogue c
unfolding catalogue_of
formed text statements says once within c is =
    all_means [] statements nothing_defined c nothing_means once within says.columns (formed_statements text (map catalogue_lexemes statements) says.are) is
