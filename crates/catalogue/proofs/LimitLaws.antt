-- The first limit that a statement is found to go beyond is the first.
use Rattle.std.proofs.Common.{◌≡◌, ◌<◌, ◌≤◌, ℕ, ◌+◌, ◌-◌, take, Bool, true, false, not, nat_lt, nat_le, List, [], ◌∷◌, ◌++◌, map, length, Option, Some, None, refl, sym, ap, ◌∙◌, arith, ltb-true, append-nil, length-append}
use Rattle.std.specs.Prelude.{◌&&◌, MatchOption, if◌then◌else◌, slice_get}
use Rattle.std.proofs.lemmas.List.{length-take-le}
use Rattle.spelling.specs.Firsts.{NoneHas}
use Rattle.catalogue.specs.Faults.{IsLimitAt}
use Rattle.catalogue.proofs.FirstLaws.{first_here}
use Rattle.std.specs.Str.{is_utf8}
use Rattle.std.proofs.lemmas.Bool.{both_ways, lt-ltb, le-leb, leb-true, ltb-false, leb-false, and_parts, and_from}
use Rattle.std.proofs.lemmas.Str.{is_utf8-from_IsUtf8, IsUtf8-from_is_utf8}
use Rattle.star_model.specs.declared.faults.LimitKind.{LimitKind}
use Rattle.star_model.specs.declared.faults.LimitKind.TheVariants as limit
use Rattle.spelling.specs.Limits.{limit_rank}
use Rattle.star_model.specs.declared.catalogue.SiteDef.{SiteDef}
use Rattle.catalogue.specs.Catalogues.{CatalogueStatement, Site, Table, Index, TablePart, IndexPart}
use Rattle.catalogue.specs.Defined.{sites_in, tables_in, indexes_in}
use Rattle.std.specs.List.{list_any}
use Rattle.catalogue.specs.Words.{column_of}
use Rattle.catalogue.specs.declared.words.ColumnWords.{ColumnWords}
use Rattle.catalogue.proofs.DefinedLaws.{some_column, sites_in-append, tables_in-append, indexes_in-append}
use Rattle.catalogue.specs.declared.limits.Counts.{Counts}
use Rattle.catalogue.specs.Beyond.{IsFileName, Beyond, BeyondFirst, IsBeyond}
use Rattle.catalogue.specs.LimitTests.{is_great_column, is_long_column, is_file_name, has_great_number, has_long_name, kind_limit, limit_beyond, Counted}
use Rattle.catalogue.proofs.LexemeLimits.{great_from, great_to, long_from, long_to}

pub file_name_from : (name : List ℕ) → is_file_name name ≡ true → IsFileName name
file_name_from name h =
    let p = and_parts (nat_lt 0 (length name) && nat_le (length name) 255) (is_utf8 name) h in
    let q = and_parts (nat_lt 0 (length name)) (nat_le (length name) 255) p.0 in
    record { some = ltb-true 0 (length name) q.0; few = leb-true (length name) 255 q.1; utf8 = IsUtf8-from_is_utf8 name p.1 }

pub file_name_to : (name : List ℕ) → IsFileName name → is_file_name name ≡ true
file_name_to name h =
    and_from (nat_lt 0 (length name) && nat_le (length name) 255) (is_utf8 name)
    (and_from (nat_lt 0 (length name)) (nat_le (length name) 255) (lt-ltb 0 (length name) h.some) (le-leb (length name) 255 h.few)) (is_utf8-from_IsUtf8 name h.utf8)

-- what is found of a statement, where neither its numbers nor its names are beyond their limits
abbrev pub Finds : List CatalogueStatement → CatalogueStatement → Option LimitKind → Type 0
Finds earlier s found = MatchOption found (IsBeyond earlier s → ⊥) (λ what. BeyondFirst what earlier s)

first_number : (earlier : List CatalogueStatement) (s : CatalogueStatement) → has_great_number s ≡ true → BeyondFirst limit.Number earlier s
first_number earlier s h = record { beyond = great_from s h; first = λ other b. omega arith }

first_name : (earlier : List CatalogueStatement) (s : CatalogueStatement) → has_great_number s ≡ false → has_long_name s ≡ true → BeyondFirst limit.Name earlier s
first_name earlier s fine h = record { beyond = long_from s h; first = rest } where
  rest : (other : LimitKind) → Beyond earlier s other → 1 ≤ limit_rank other
  rest limit.Number b = absurd (both_ways (has_great_number s) fine (great_to s b))
  rest _ b = omega arith

module _ (counts : Counts) (earlier : List CatalogueStatement) (counted : Counted counts earlier) where
  -- ---- a site

  module _ (s : SiteDef) (fine : has_great_number (Site s) ≡ false) (short : has_long_name (Site s) ≡ false) where
    no_site_limit : nat_le 8 counts.sites ≡ false → (what : LimitKind) → Beyond earlier (Site s) what → ⊥
    no_site_limit few limit.Number b = both_ways (has_great_number (Site s)) fine (great_to (Site s) b)
    no_site_limit few limit.Name b = both_ways (has_long_name (Site s)) short (long_to (Site s) b)
    no_site_limit few limit.Sites b = omega (arith, leb-false 8 counts.sites few, counted.sites)
    no_site_limit few _ b = b

    first_sites : nat_le 8 counts.sites ≡ true → BeyondFirst limit.Sites earlier (Site s)
    first_sites many = record { beyond = omega (arith, leb-true 8 counts.sites many, counted.sites); first = rest } where
      rest : (other : LimitKind) → Beyond earlier (Site s) other → 9 ≤ limit_rank other
      rest limit.Number b = absurd (both_ways (has_great_number (Site s)) fine (great_to (Site s) b))
      rest limit.Name b = absurd (both_ways (has_long_name (Site s)) short (long_to (Site s) b))
      rest limit.Sites b = omega arith
      rest _ b = absurd b

    site_finds : Finds earlier (Site s) (kind_limit counts (Site s))
    site_finds = at (nat_le 8 counts.sites) refl where
      at : (b : Bool) → nat_le 8 counts.sites ≡ b → Finds earlier (Site s) (if b then Some limit.Sites else None)
      at true many = first_sites many
      at false few = λ beyond. no_site_limit few beyond.0 beyond.1

  -- ---- a table

  module _ (t : TablePart) (fine : has_great_number (Table t) ≡ false) (short : has_long_name (Table t) ≡ false) where
    no_table_limit : is_file_name t.file ≡ true → nat_le 32 counts.tables ≡ false → nat_lt 32 (length t.columns) ≡ false → (what : LimitKind) → Beyond earlier (Table t) what → ⊥
    no_table_limit file few small limit.Number b = both_ways (has_great_number (Table t)) fine (great_to (Table t) b)
    no_table_limit file few small limit.Name b = both_ways (has_long_name (Table t)) short (long_to (Table t) b)
    no_table_limit file few small limit.File b = b (file_name_from t.file file)
    no_table_limit file few small limit.Tables b = omega (arith, leb-false 32 counts.tables few, counted.tables)
    no_table_limit file few small limit.Columns b = omega (arith, ltb-false 32 (length t.columns) small)
    no_table_limit file few small _ b = b

    first_file : is_file_name t.file ≡ false → BeyondFirst limit.File earlier (Table t)
    first_file bad = record { beyond = λ name. both_ways (is_file_name t.file) bad (file_name_to t.file name); first = rest } where
      rest : (other : LimitKind) → Beyond earlier (Table t) other → 2 ≤ limit_rank other
      rest limit.Number b = absurd (both_ways (has_great_number (Table t)) fine (great_to (Table t) b))
      rest limit.Name b = absurd (both_ways (has_long_name (Table t)) short (long_to (Table t) b))
      rest _ b = omega arith

    first_tables : is_file_name t.file ≡ true → nat_le 32 counts.tables ≡ true → BeyondFirst limit.Tables earlier (Table t)
    first_tables file many = record { beyond = omega (arith, leb-true 32 counts.tables many, counted.tables); first = rest } where
      rest : (other : LimitKind) → Beyond earlier (Table t) other → 10 ≤ limit_rank other
      rest limit.Number b = absurd (both_ways (has_great_number (Table t)) fine (great_to (Table t) b))
      rest limit.Name b = absurd (both_ways (has_long_name (Table t)) short (long_to (Table t) b))
      rest limit.File b = absurd (b (file_name_from t.file file))
      rest limit.Tables b = omega arith
      rest limit.Columns b = omega arith
      rest _ b = absurd b

    first_columns : is_file_name t.file ≡ true → nat_le 32 counts.tables ≡ false → nat_lt 32 (length t.columns) ≡ true → BeyondFirst limit.Columns earlier (Table t)
    first_columns file few wide = record { beyond = omega (arith, ltb-true 32 (length t.columns) wide); first = rest } where
      rest : (other : LimitKind) → Beyond earlier (Table t) other → 11 ≤ limit_rank other
      rest limit.Number b = absurd (both_ways (has_great_number (Table t)) fine (great_to (Table t) b))
      rest limit.Name b = absurd (both_ways (has_long_name (Table t)) short (long_to (Table t) b))
      rest limit.File b = absurd (b (file_name_from t.file file))
      rest limit.Tables b = absurd (omega (arith, leb-false 32 counts.tables few, counted.tables))
      rest limit.Columns b = omega arith
      rest _ b = absurd b

    table_finds : Finds earlier (Table t) (kind_limit counts (Table t))
    table_finds = at (is_file_name t.file) (nat_le 32 counts.tables) (nat_lt 32 (length t.columns)) refl refl refl where
      at : (a b c : Bool) → is_file_name t.file ≡ a → nat_le 32 counts.tables ≡ b → nat_lt 32 (length t.columns) ≡ c
          → Finds earlier (Table t) (if not a then Some limit.File else if b then Some limit.Tables else if c then Some limit.Columns else None)
      at false b c file many wide = first_file file
      at true true c file many wide = first_tables file many
      at true false true file many wide = first_columns file many wide
      at true false false file many wide = λ beyond. no_table_limit file many wide beyond.0 beyond.1

  -- ---- an index

  module _ (i : IndexPart) (fine : has_great_number (Index i) ≡ false) (short : has_long_name (Index i) ≡ false) where
    no_index_limit : nat_le 64 counts.indexes ≡ false → nat_lt 8 (length i.columns) ≡ false → (what : LimitKind) → Beyond earlier (Index i) what → ⊥
    no_index_limit few small limit.Number b = both_ways (has_great_number (Index i)) fine (great_to (Index i) b)
    no_index_limit few small limit.Name b = both_ways (has_long_name (Index i)) short (long_to (Index i) b)
    no_index_limit few small limit.Indexes b = omega (arith, leb-false 64 counts.indexes few, counted.indexes)
    no_index_limit few small limit.IndexColumns b = omega (arith, ltb-false 8 (length i.columns) small)
    no_index_limit few small _ b = b

    first_indexes : nat_le 64 counts.indexes ≡ true → BeyondFirst limit.Indexes earlier (Index i)
    first_indexes many = record { beyond = omega (arith, leb-true 64 counts.indexes many, counted.indexes); first = rest } where
      rest : (other : LimitKind) → Beyond earlier (Index i) other → 12 ≤ limit_rank other
      rest limit.Number b = absurd (both_ways (has_great_number (Index i)) fine (great_to (Index i) b))
      rest limit.Name b = absurd (both_ways (has_long_name (Index i)) short (long_to (Index i) b))
      rest limit.Indexes b = omega arith
      rest limit.IndexColumns b = omega arith
      rest _ b = absurd b

    first_index_columns : nat_le 64 counts.indexes ≡ false → nat_lt 8 (length i.columns) ≡ true → BeyondFirst limit.IndexColumns earlier (Index i)
    first_index_columns few wide = record { beyond = ltb-true 8 (length i.columns) wide; first = rest } where
      rest : (other : LimitKind) → Beyond earlier (Index i) other → 13 ≤ limit_rank other
      rest limit.Number b = absurd (both_ways (has_great_number (Index i)) fine (great_to (Index i) b))
      rest limit.Name b = absurd (both_ways (has_long_name (Index i)) short (long_to (Index i) b))
      rest limit.Indexes b = absurd (omega (arith, leb-false 64 counts.indexes few, counted.indexes))
      rest limit.IndexColumns b = omega arith
      rest _ b = absurd b

    index_finds : Finds earlier (Index i) (kind_limit counts (Index i))
    index_finds = at (nat_le 64 counts.indexes) (nat_lt 8 (length i.columns)) refl refl where
      at : (b c : Bool) → nat_le 64 counts.indexes ≡ b → nat_lt 8 (length i.columns) ≡ c
          → Finds earlier (Index i) (if b then Some limit.Indexes else if c then Some limit.IndexColumns else None)
      at true c many wide = first_indexes many
      at false true many wide = first_index_columns many wide
      at false false many wide = λ beyond. no_index_limit many wide beyond.0 beyond.1

  -- ---- any statement

  kind_finds : (s : CatalogueStatement) → has_great_number s ≡ false → has_long_name s ≡ false → Finds earlier s (kind_limit counts s)
  kind_finds (Site s) fine short = site_finds s fine short
  kind_finds (Table t) fine short = table_finds t fine short
  kind_finds (Index i) fine short = index_finds i fine short

  pub limit_found : (s : CatalogueStatement) → Finds earlier s (limit_beyond counts s)
  limit_found s = at (has_great_number s) (has_long_name s) refl refl where
    at : (a b : Bool) → has_great_number s ≡ a → has_long_name s ≡ b → Finds earlier s (if a then Some limit.Number else if b then Some limit.Name else kind_limit counts s)
    at true b great long_ = first_number earlier s great
    at false true great long_ = first_name earlier s great long_
    at false false great long_ = kind_finds s great long_

-- ---- counting

pub counted_all : (earlier : List CatalogueStatement) → length (sites_in earlier) + length (tables_in earlier) + length (indexes_in earlier) ≡ length earlier
counted_all [] = refl
counted_all (Site s ∷ earlier) = omega (arith, counted_all earlier)
counted_all (Table t ∷ earlier) = omega (arith, counted_all earlier)
counted_all (Index i ∷ earlier) = omega (arith, counted_all earlier)

one_longer : (xs ys : List (List ℕ)) (x : List ℕ) → ys ≡ xs ++ x ∷ [] → length ys ≡ length xs + 1
one_longer xs ys x is = ap length is ∙ length-append xs (x ∷ [])

pub counted_site : (counts : Counts) (earlier : List CatalogueStatement) (s : SiteDef) → Counted counts earlier
    → Counted (record counts { sites = counts.sites + 1 }) (earlier ++ Site s ∷ [])
counted_site counts earlier s counted =
    let x : List CatalogueStatement = Site s ∷ [] in
    record {
      sites = ap (λ n. n + 1) counted.sites ∙ sym (one_longer (sites_in earlier) _ s.name (sites_in-append earlier x));
      tables = counted.tables ∙ sym (ap length (tables_in-append earlier x ∙ append-nil (tables_in earlier)));
      indexes = counted.indexes ∙ sym (ap length (indexes_in-append earlier x ∙ append-nil (indexes_in earlier)));
    }

pub counted_table : (counts : Counts) (earlier : List CatalogueStatement) (t : TablePart) → Counted counts earlier
    → Counted (record counts { tables = counts.tables + 1 }) (earlier ++ Table t ∷ [])
counted_table counts earlier t counted =
    let x : List CatalogueStatement = Table t ∷ [] in
    record {
      sites = counted.sites ∙ sym (ap length (sites_in-append earlier x ∙ append-nil (sites_in earlier)));
      tables = ap (λ n. n + 1) counted.tables ∙ sym (one_longer (tables_in earlier) _ t.name (tables_in-append earlier x));
      indexes = counted.indexes ∙ sym (ap length (indexes_in-append earlier x ∙ append-nil (indexes_in earlier)));
    }

pub counted_index : (counts : Counts) (earlier : List CatalogueStatement) (i : IndexPart) → Counted counts earlier
    → Counted (record counts { indexes = counts.indexes + 1 }) (earlier ++ Index i ∷ [])
counted_index counts earlier i counted =
    let x : List CatalogueStatement = Index i ∷ [] in
    record {
      sites = counted.sites ∙ sym (ap length (sites_in-append earlier x ∙ append-nil (sites_in earlier)));
      tables = counted.tables ∙ sym (ap length (tables_in-append earlier x ∙ append-nil (tables_in earlier)));
      indexes = ap (λ n. n + 1) counted.indexes ∙ sym (one_longer (indexes_in earlier) _ i.name (indexes_in-append earlier x));
    }

-- ---- statement by statement

back : (i : ℕ) → i + 1 - 1 ≡ i
back i = omega arith

pub limit_here : (statements : List CatalogueStatement) (i : ℕ) (x : CatalogueStatement) (what : LimitKind) → NoneHas IsBeyond (take i statements) → slice_get statements i ≡ Some x
    → BeyondFirst what (take i statements) x → IsLimitAt statements (i + 1) what
limit_here statements i x what none at limit = record {
  first = first_here IsBeyond statements i x none at (what, limit.beyond);
  statement = x;
  is = rw (back i) at;
  limit = rw (back i) limit;
}

-- what was found of the statement behind those so far
pub found_here : (counts : Counts) (earlier : List CatalogueStatement) (s : CatalogueStatement) (found : Option LimitKind) → Counted counts earlier → found ≡ limit_beyond counts s → Finds earlier s found
found_here counts earlier s found counted is = rw is (limit_found counts earlier counted s)

pub counted_few : (counts : Counts) (statements : List CatalogueStatement) (i : ℕ) → Counted counts (take i statements) → i < length statements → counts.sites + counts.tables + counts.indexes ≡ i
counted_few counts statements i counted less =
    omega (arith, counted.sites, counted.tables, counted.indexes, counted_all (take i statements), length-take-le i statements (omega arith))

-- ---- columns as they are written

pub some_great : (columns : List ColumnWords) → list_any is_great_column (map column_of columns) ≡ list_any (λ c. is_great_column (column_of c)) columns
some_great columns = sym (some_column is_great_column columns)

pub some_long : (columns : List ColumnWords) → list_any is_long_column (map column_of columns) ≡ list_any (λ c. is_long_column (column_of c)) columns
some_long columns = sym (some_column is_long_column columns)
