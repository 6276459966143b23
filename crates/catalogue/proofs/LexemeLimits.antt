-- The tests of numbers and names find what stands among the lexemes of a statement.
use Rattle.std.proofs.Common.{◌≡◌, ◌≤◌, ◌⊎◌, inl, inr, ℕ, true, false, List, [], ◌∷◌, ◌++◌, map, length, arith, ltb-true}
use Rattle.std.specs.Prelude.{◌||◌, codes}
use Rattle.std.specs.List.{list_any}
use Rattle.std.proofs.lemmas.Bool.{lt-ltb, or_cases, or_left, or_right}
use Rattle.star_model.specs.Numbers.{top}
use Rattle.spelling.specs.Lexemes.{Lexeme, Word, Number, Text, Symbol, comma, right_bracket, joined_by, bracketed}
use Rattle.spelling.specs.Limits.{HasLongWord, HasGreatNumber}
use Rattle.star_model.specs.declared.catalogue.ColType.{ColType}
use Rattle.star_model.specs.declared.catalogue.ColType.TheVariants as type
use Rattle.catalogue.specs.Catalogues.{CatalogueStatement, Site, Table, Index, type_word, column_lexemes, name_lexemes, catalogue_lexemes}
use Rattle.star_model.specs.declared.catalogue.ColumnDef.{ColumnDef}
use Rattle.catalogue.specs.LimitTests.{is_great, is_great_column, has_great_number, is_long, is_long_column, has_long_name}

-- ---- great numbers

great_left : (xs ys : List Lexeme) → HasGreatNumber xs → HasGreatNumber (xs ++ ys)
great_left [] ys h = absurd h
great_left (Word b ∷ xs) ys h = great_left xs ys h
great_left (Number n ∷ xs) ys (inl h) = inl h
great_left (Number n ∷ xs) ys (inr h) = inr (great_left xs ys h)
great_left (Text b ∷ xs) ys h = great_left xs ys h
great_left (Symbol b ∷ xs) ys h = great_left xs ys h

great_right : (xs ys : List Lexeme) → HasGreatNumber ys → HasGreatNumber (xs ++ ys)
great_right [] ys h = h
great_right (Word b ∷ xs) ys h = great_right xs ys h
great_right (Number n ∷ xs) ys h = inr (great_right xs ys h)
great_right (Text b ∷ xs) ys h = great_right xs ys h
great_right (Symbol b ∷ xs) ys h = great_right xs ys h

great_parts : (xs ys : List Lexeme) → HasGreatNumber (xs ++ ys) → HasGreatNumber xs ⊎ HasGreatNumber ys
great_parts [] ys h = inr h
great_parts (Word b ∷ xs) ys h = great_parts xs ys h
great_parts (Number n ∷ xs) ys (inl h) = inl (inl h)
great_parts (Number n ∷ xs) ys (inr h) = elim (great_parts xs ys h) [ inl k ↦ inl (inr k) | inr k ↦ inr k ]
great_parts (Text b ∷ xs) ys h = great_parts xs ys h
great_parts (Symbol b ∷ xs) ys h = great_parts xs ys h

abbrev columns_said : List ColumnDef → List Lexeme
columns_said columns = joined_by comma (map column_lexemes columns)

great_column_from : (c : ColumnDef) → is_great_column c ≡ true → HasGreatNumber (column_lexemes c)
great_column_from c h = elim (or_cases (is_great c.width) (is_great c.distinct) h) [ inl k ↦ inl (ltb-true top c.width k) | inr k ↦ inr (inl (ltb-true top c.distinct k)) ]

great_column_to : (c : ColumnDef) → HasGreatNumber (column_lexemes c) → is_great_column c ≡ true
great_column_to c (inl h) = or_left (is_great c.width) (is_great c.distinct) (lt-ltb top c.width h)
great_column_to c (inr (inl h)) = or_right (is_great c.width) (is_great c.distinct) (lt-ltb top c.distinct h)
great_column_to c (inr (inr h)) = absurd h

great_columns_from : (columns : List ColumnDef) → list_any is_great_column columns ≡ true → HasGreatNumber (columns_said columns)
great_columns_from [] h = absurd cc
great_columns_from (c ∷ []) h = elim (or_cases (is_great_column c) false h) [ inl k ↦ great_column_from c k | inr k ↦ absurd cc ]
great_columns_from (c ∷ d ∷ columns) h =
    elim (or_cases (is_great_column c) (list_any is_great_column (d ∷ columns)) h) [
      | inl k ↦ great_left (column_lexemes c) (comma ∷ columns_said (d ∷ columns)) (great_column_from c k)
      | inr k ↦ great_right (column_lexemes c) (comma ∷ columns_said (d ∷ columns)) (great_columns_from (d ∷ columns) k)
    ]

great_columns_to : (columns : List ColumnDef) → HasGreatNumber (columns_said columns) → list_any is_great_column columns ≡ true
great_columns_to [] h = absurd h
great_columns_to (c ∷ []) h = or_left (is_great_column c) false (great_column_to c h)
great_columns_to (c ∷ d ∷ columns) h =
    elim (great_parts (column_lexemes c) (comma ∷ columns_said (d ∷ columns)) h) [
      | inl k ↦ or_left (is_great_column c) (list_any is_great_column (d ∷ columns)) (great_column_to c k)
      | inr k ↦ or_right (is_great_column c) (list_any is_great_column (d ∷ columns)) (great_columns_to (d ∷ columns) k)
    ]

bracketed_great : (inside rest : List Lexeme) → HasGreatNumber (bracketed inside ++ rest) → HasGreatNumber inside ⊎ HasGreatNumber rest
bracketed_great inside rest h =
    elim (great_parts (inside ++ right_bracket ∷ []) rest h) [
      | inl k ↦ elim (great_parts inside (right_bracket ∷ []) k) [ inl l ↦ inl l | inr l ↦ absurd l ]
      | inr k ↦ inr k
    ]

pub great_from : (s : CatalogueStatement) → has_great_number s ≡ true → HasGreatNumber (catalogue_lexemes s)
great_from (Site s) h = elim (or_cases (is_great s.cpu) (is_great s.net) h) [ inl k ↦ inl (ltb-true top s.cpu k) | inr k ↦ inr (inl (ltb-true top s.net k)) ]
great_from (Table t) h =
    elim (or_cases (is_great t.rows || is_great t.pages) (list_any is_great_column t.columns) h) [
      | inl k ↦ elim (or_cases (is_great t.rows) (is_great t.pages) k) [ inl l ↦ inl (ltb-true top t.rows l) | inr l ↦ inr (inl (ltb-true top t.pages l)) ]
      | inr k ↦ inr (inr (great_left (columns_said t.columns) (right_bracket ∷ []) (great_columns_from t.columns k)))
    ]
great_from (Index i) h = great_right (bracketed (joined_by comma (map name_lexemes i.columns))) (Word (codes "pages") ∷ Number i.pages ∷ []) (inl (ltb-true top i.pages h))

no_great_name : (names : List (List ℕ)) → HasGreatNumber (joined_by comma (map name_lexemes names)) → ⊥
no_great_name [] h = h
no_great_name (n ∷ []) h = h
no_great_name (n ∷ m ∷ names) h = no_great_name (m ∷ names) h

pub great_to : (s : CatalogueStatement) → HasGreatNumber (catalogue_lexemes s) → has_great_number s ≡ true
great_to (Site s) (inl h) = or_left (is_great s.cpu) (is_great s.net) (lt-ltb top s.cpu h)
great_to (Site s) (inr (inl h)) = or_right (is_great s.cpu) (is_great s.net) (lt-ltb top s.net h)
great_to (Site s) (inr (inr h)) = absurd h
great_to (Table t) (inl h) = or_left (is_great t.rows || is_great t.pages) (list_any is_great_column t.columns) (or_left (is_great t.rows) (is_great t.pages) (lt-ltb top t.rows h))
great_to (Table t) (inr (inl h)) = or_left (is_great t.rows || is_great t.pages) (list_any is_great_column t.columns) (or_right (is_great t.rows) (is_great t.pages) (lt-ltb top t.pages h))
great_to (Table t) (inr (inr h)) =
    elim (great_parts (columns_said t.columns) (right_bracket ∷ []) h) [
      | inl k ↦ or_right (is_great t.rows || is_great t.pages) (list_any is_great_column t.columns) (great_columns_to t.columns k)
      | inr k ↦ absurd k
    ]
great_to (Index i) h =
    elim (bracketed_great (joined_by comma (map name_lexemes i.columns)) (Word (codes "pages") ∷ Number i.pages ∷ []) h) [
      | inl k ↦ absurd (no_great_name i.columns k)
      | inr k ↦ elim k [ inl l ↦ lt-ltb top i.pages l | inr l ↦ absurd l ]
    ]

-- ---- long words

long_left : (xs ys : List Lexeme) → HasLongWord xs → HasLongWord (xs ++ ys)
long_left [] ys h = absurd h
long_left (Word b ∷ xs) ys (inl h) = inl h
long_left (Word b ∷ xs) ys (inr h) = inr (long_left xs ys h)
long_left (Number n ∷ xs) ys h = long_left xs ys h
long_left (Text b ∷ xs) ys h = long_left xs ys h
long_left (Symbol b ∷ xs) ys h = long_left xs ys h

long_right : (xs ys : List Lexeme) → HasLongWord ys → HasLongWord (xs ++ ys)
long_right [] ys h = h
long_right (Word b ∷ xs) ys h = inr (long_right xs ys h)
long_right (Number n ∷ xs) ys h = long_right xs ys h
long_right (Text b ∷ xs) ys h = long_right xs ys h
long_right (Symbol b ∷ xs) ys h = long_right xs ys h

long_parts : (xs ys : List Lexeme) → HasLongWord (xs ++ ys) → HasLongWord xs ⊎ HasLongWord ys
long_parts [] ys h = inr h
long_parts (Word b ∷ xs) ys (inl h) = inl (inl h)
long_parts (Word b ∷ xs) ys (inr h) = elim (long_parts xs ys h) [ inl k ↦ inl (inr k) | inr k ↦ inr k ]
long_parts (Number n ∷ xs) ys h = long_parts xs ys h
long_parts (Text b ∷ xs) ys h = long_parts xs ys h
long_parts (Symbol b ∷ xs) ys h = long_parts xs ys h

-- The words of the grammar are short: what is long behind one is the rest.
module _ (word : List ℕ) (short : length word ≤ 64) (xs : List Lexeme) where
  passed : HasLongWord (Word word ∷ xs) → HasLongWord xs
  passed (inl h) = absurd (omega arith)
  passed (inr h) = h

abbrev names_said : List (List ℕ) → List Lexeme
names_said names = joined_by comma (map name_lexemes names)

long_names_from : (names : List (List ℕ)) → list_any is_long names ≡ true → HasLongWord (names_said names)
long_names_from [] h = absurd cc
long_names_from (n ∷ []) h = elim (or_cases (is_long n) false h) [ inl k ↦ inl (ltb-true 64 (length n) k) | inr k ↦ absurd cc ]
long_names_from (n ∷ m ∷ names) h =
    elim (or_cases (is_long n) (list_any is_long (m ∷ names)) h) [ inl k ↦ inl (ltb-true 64 (length n) k) | inr k ↦ inr (long_names_from (m ∷ names) k) ]

long_names_to : (names : List (List ℕ)) → HasLongWord (names_said names) → list_any is_long names ≡ true
long_names_to [] h = absurd h
long_names_to (n ∷ []) (inl h) = or_left (is_long n) false (lt-ltb 64 (length n) h)
long_names_to (n ∷ []) (inr h) = absurd h
long_names_to (n ∷ m ∷ names) (inl h) = or_left (is_long n) (list_any is_long (m ∷ names)) (lt-ltb 64 (length n) h)
long_names_to (n ∷ m ∷ names) (inr h) = or_right (is_long n) (list_any is_long (m ∷ names)) (long_names_to (m ∷ names) h)

long_column_from : (c : ColumnDef) → is_long_column c ≡ true → HasLongWord (column_lexemes c)
long_column_from c h = inl (ltb-true 64 (length c.name) h)

-- no type has a long name
short_type : (c : ColumnDef) → length (type_word c.kind) ≤ 64
short_type c = at c.kind where
  at : (kind : ColType) → length (type_word kind) ≤ 64
  at type.Int = omega arith
  at type.Text = omega arith

long_column_to : (c : ColumnDef) → HasLongWord (column_lexemes c) → is_long_column c ≡ true
long_column_to c (inl h) = lt-ltb 64 (length c.name) h
long_column_to c (inr h) = absurd (passed (codes "distinct") (omega arith) (Number c.distinct ∷ [])
    (passed (codes "width") (omega arith) (Number c.width ∷ Word (codes "distinct") ∷ Number c.distinct ∷ [])
    (passed (type_word c.kind) (short_type c) (Word (codes "width") ∷ Number c.width ∷ Word (codes "distinct") ∷ Number c.distinct ∷ []) h)))

long_columns_from : (columns : List ColumnDef) → list_any is_long_column columns ≡ true → HasLongWord (columns_said columns)
long_columns_from [] h = absurd cc
long_columns_from (c ∷ []) h = elim (or_cases (is_long_column c) false h) [ inl k ↦ long_column_from c k | inr k ↦ absurd cc ]
long_columns_from (c ∷ d ∷ columns) h =
    elim (or_cases (is_long_column c) (list_any is_long_column (d ∷ columns)) h) [
      | inl k ↦ long_left (column_lexemes c) (comma ∷ columns_said (d ∷ columns)) (long_column_from c k)
      | inr k ↦ long_right (column_lexemes c) (comma ∷ columns_said (d ∷ columns)) (long_columns_from (d ∷ columns) k)
    ]

long_columns_to : (columns : List ColumnDef) → HasLongWord (columns_said columns) → list_any is_long_column columns ≡ true
long_columns_to [] h = absurd h
long_columns_to (c ∷ []) h = or_left (is_long_column c) false (long_column_to c h)
long_columns_to (c ∷ d ∷ columns) h =
    elim (long_parts (column_lexemes c) (comma ∷ columns_said (d ∷ columns)) h) [
      | inl k ↦ or_left (is_long_column c) (list_any is_long_column (d ∷ columns)) (long_column_to c k)
      | inr k ↦ or_right (is_long_column c) (list_any is_long_column (d ∷ columns)) (long_columns_to (d ∷ columns) k)
    ]

pub long_from : (s : CatalogueStatement) → has_long_name s ≡ true → HasLongWord (catalogue_lexemes s)
long_from (Site s) h = inr (inl (ltb-true 64 (length s.name) h))
long_from (Table t) h =
    elim (or_cases (is_long t.name || is_long t.site) (list_any is_long_column t.columns) h) [
      | inl k ↦ elim (or_cases (is_long t.name) (is_long t.site) k) [ inl l ↦ inr (inl (ltb-true 64 (length t.name) l)) | inr l ↦ inr (inr (inr (inl (ltb-true 64 (length t.site) l)))) ]
      | inr k ↦ inr (inr (inr (inr (inr (inr (inr (long_left (columns_said t.columns) (right_bracket ∷ []) (long_columns_from t.columns k))))))))
    ]
long_from (Index i) h =
    elim (or_cases (is_long i.name || is_long i.table) (list_any is_long i.columns) h) [
      | inl k ↦ elim (or_cases (is_long i.name) (is_long i.table) k) [ inl l ↦ inr (inl (ltb-true 64 (length i.name) l)) | inr l ↦ inr (inr (inr (inl (ltb-true 64 (length i.table) l)))) ]
      | inr k ↦ inr (inr (inr (inr (long_left (bracketed (names_said i.columns)) (Word (codes "pages") ∷ Number i.pages ∷ [])
          (long_left (names_said i.columns) (right_bracket ∷ []) (long_names_from i.columns k))))))
    ]

pub long_to : (s : CatalogueStatement) → HasLongWord (catalogue_lexemes s) → has_long_name s ≡ true
long_to (Site s) (inl h) = absurd (omega arith)
long_to (Site s) (inr (inl h)) = lt-ltb 64 (length s.name) h
long_to (Site s) (inr (inr (inl h))) = absurd (omega arith)
long_to (Site s) (inr (inr (inr (inl h)))) = absurd (omega arith)
long_to (Site s) (inr (inr (inr (inr h)))) = absurd h
long_to (Table t) (inl h) = absurd (omega arith)
long_to (Table t) (inr (inl h)) =
    or_left (is_long t.name || is_long t.site) (list_any is_long_column t.columns) (or_left (is_long t.name) (is_long t.site) (lt-ltb 64 (length t.name) h))
long_to (Table t) (inr (inr (inl h))) = absurd (omega arith)
long_to (Table t) (inr (inr (inr (inl h)))) =
    or_left (is_long t.name || is_long t.site) (list_any is_long_column t.columns) (or_right (is_long t.name) (is_long t.site) (lt-ltb 64 (length t.site) h))
long_to (Table t) (inr (inr (inr (inr (inl h))))) = absurd (omega arith)
long_to (Table t) (inr (inr (inr (inr (inr (inl h)))))) = absurd (omega arith)
long_to (Table t) (inr (inr (inr (inr (inr (inr (inl h))))))) = absurd (omega arith)
long_to (Table t) (inr (inr (inr (inr (inr (inr (inr h))))))) =
    elim (long_parts (columns_said t.columns) (right_bracket ∷ []) h) [
      | inl k ↦ or_right (is_long t.name || is_long t.site) (list_any is_long_column t.columns) (long_columns_to t.columns k)
      | inr k ↦ absurd k
    ]
long_to (Index i) (inl h) = absurd (omega arith)
long_to (Index i) (inr (inl h)) =
    or_left (is_long i.name || is_long i.table) (list_any is_long i.columns) (or_left (is_long i.name) (is_long i.table) (lt-ltb 64 (length i.name) h))
long_to (Index i) (inr (inr (inl h))) = absurd (omega arith)
long_to (Index i) (inr (inr (inr (inl h)))) =
    or_left (is_long i.name || is_long i.table) (list_any is_long i.columns) (or_right (is_long i.name) (is_long i.table) (lt-ltb 64 (length i.table) h))
long_to (Index i) (inr (inr (inr (inr h)))) =
    elim (long_parts (names_said i.columns ++ right_bracket ∷ []) (Word (codes "pages") ∷ Number i.pages ∷ []) h) [
      | inl k ↦ elim (long_parts (names_said i.columns) (right_bracket ∷ []) k) [
        | inl l ↦ or_right (is_long i.name || is_long i.table) (list_any is_long i.columns) (long_names_to i.columns l)
        | inr l ↦ absurd l
      ]
      | inr k ↦ absurd (passed (codes "pages") (omega arith) (Number i.pages ∷ []) k)
    ]
