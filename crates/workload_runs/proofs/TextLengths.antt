-- The texts of a workload are short: each statement has few lexemes, and each lexeme few bytes.
use Rattle.std.proofs.Common.{◌≡◌, ℕ, zero, suc, Bool, true, false, ◌||◌, ◌+◌, ◌*◌, ◌≤◌, if◌then◌else◌, List, [], ◌∷◌, ◌++◌, length, map, ap, ◌∙◌, arith}
use Rattle.std.specs.Prelude.{decimal}
use Rattle.std.specs.Fmt.{digits}
use Rattle.std.proofs.lemmas.List.{length-append, length-map}
use Rattle.std.proofs.lemmas.Fmt.{length-decimal-le}
use Rattle.star_model.specs.Every.{Every}
use Rattle.spelling.specs.FormedLexemes.{every_both, map_every}
use Rattle.spelling.specs.Layout.{layout, line, spaced, gap, written, hangs, leads, calls}
use Rattle.spelling.specs.Lexemes.{Lexeme, Text, semicolon}
use Rattle.catalogue.specs.Catalogues.{CatalogueStatement, Table, Index, catalogue_lexemes}
use Rattle.workload_gen.specs.declared.tables.DrawnTable.{DrawnTable}
use Rattle.workload_gen.specs.CatalogueText.{site_statement, table_part, index_part, table_statements, statements_from, catalogue_statements, catalogue_text}
use Rattle.workload_gen.specs.Links.{IsLinked, AreLinked}
use Rattle.workload_gen.specs.Names.{file_name}
use Rattle.workload_gen.specs.QueryText.{query_text}
use Rattle.workload_gen.specs.RulesText.{rules_text}
use Rattle.workload_gen.specs.Tables.{drawn_tables}
use Rattle.workload_gen.specs.Workloads.{IsSize}
use Rattle.workload_gen.proofs.Laws.{tables_linked, tables_count}
use Rattle.workload_runs.specs.AcceptedTexts.{IsShort}

-- ---- any layout of few short lexemes

abbrev IsBrief : Lexeme → Type 0
IsBrief x = length (written x) ≤ 24

short_gap : (x y : Lexeme) → length (gap x y) ≤ 1
short_gap x y = go (hangs y || leads x || calls x y) where
  go : (b : Bool) → length {A = ℕ} (if b then [] else 32 ∷ []) ≤ 1
  go true = omega arith
  go false = omega arith

length-spaced : (xs : List Lexeme) → Every IsBrief xs → length (spaced xs) ≤ 25 * length xs
length-spaced [] brief = omega arith
length-spaced (x ∷ []) brief = let own = brief.0 in omega (arith, own)
length-spaced (x ∷ y ∷ rest) brief =
    let own = brief.0 in
    let later = length-spaced (y ∷ rest) brief.1 in
    let between = short_gap x y in
    let parts : length (spaced (x ∷ y ∷ rest)) ≡ length (written x) + (length (gap x y) + length (spaced (y ∷ rest))) =
    length-append (written x) (gap x y ++ spaced (y ∷ rest)) ∙ ap (λ n. length (written x) + n) (length-append (gap x y) (spaced (y ∷ rest))) in
    omega (arith, own, later, between, parts)

pub record IsShortStatement (xs : List Lexeme) : Type 0 where
  pub few : length xs ≤ 39
  pub brief : Every IsBrief xs

length-line : (xs : List Lexeme) → IsShortStatement xs → length (line xs) ≤ 1001
length-line xs short =
    let few = short.few in
    let brief = every_both IsBrief xs (semicolon ∷ []) short.brief (omega arith, tt) in
    let all = length-spaced (xs ++ semicolon ∷ []) brief in
    let count : length (xs ++ semicolon ∷ []) ≡ length xs + 1 = length-append xs (semicolon ∷ []) in
    let parts : length (line xs) ≡ length (spaced (xs ++ semicolon ∷ [])) + 1 = length-append (spaced (xs ++ semicolon ∷ [])) (10 ∷ []) in
    omega (arith, few, all, count, parts)

length-layout : (statements : List (List Lexeme)) → Every IsShortStatement statements → length (layout statements) ≤ 1001 * length statements
unfolding layout
length-layout [] short = omega arith
length-layout (s ∷ later) short =
    let own = length-line s short.0 in
    let rest = length-layout later short.1 in
    let parts : length (line s ++ layout later) ≡ length (line s) + length (layout later) = length-append (line s) (layout later) in
    omega (arith, own, rest, parts)

-- ---- the rules

pub short_rules : IsShort rules_text
short_rules = omega arith

-- ---- the catalogue

up_to_8 : (P : ℕ → Type 0) → P 0 → P 1 → P 2 → P 3 → P 4 → P 5 → P 6 → P 7 → P 8 → (n : ℕ) → n ≤ 8 → P n
up_to_8 P a b c d e f g h i zero few = a
up_to_8 P a b c d e f g h i (suc zero) few = b
up_to_8 P a b c d e f g h i (suc (suc zero)) few = c
up_to_8 P a b c d e f g h i (suc (suc (suc zero))) few = d
up_to_8 P a b c d e f g h i (suc (suc (suc (suc zero)))) few = e
up_to_8 P a b c d e f g h i (suc (suc (suc (suc (suc zero))))) few = f
up_to_8 P a b c d e f g h i (suc (suc (suc (suc (suc (suc zero)))))) few = g
up_to_8 P a b c d e f g h i (suc (suc (suc (suc (suc (suc (suc zero))))))) few = h
up_to_8 P a b c d e f g h i (suc (suc (suc (suc (suc (suc (suc (suc zero)))))))) few = i
up_to_8 P a b c d e f g h i (suc (suc (suc (suc (suc (suc (suc (suc (suc n))))))))) few = absurd (omega (arith, few))

brief_name : (letter number : ℕ) → number ≤ 8 → length (letter ∷ decimal number) ≤ 24
brief_name letter number few = let own = length-decimal-le 1 number (omega arith) (omega arith) (omega arith) in omega (arith, own)

brief_file : (number : ℕ) → number ≤ 8 → length (written (Text (file_name number))) ≤ 24
unfolding digits
brief_file = up_to_8 (λ number. length (written (Text (file_name number))) ≤ 24) (omega arith) (omega arith) (omega arith) (omega arith) (omega arith) (omega arith) (omega arith) (omega arith) (omega arith)

brief_number : (n : ℕ) → n ≤ 19 → length (decimal n) ≤ 24
brief_number n few = let own = length-decimal-le 2 n (omega arith) (omega arith) (omega arith) in omega (arith, own)

abbrev IsShortCatalogueStatement : CatalogueStatement → Type 0
IsShortCatalogueStatement s = IsShortStatement (catalogue_lexemes s)

short_table : (number rows_before : ℕ) (table : DrawnTable) → number ≤ 8 → rows_before ≤ 19 → IsLinked rows_before table → IsShortCatalogueStatement (Table (table_part number table))
short_table number rows_before table few few_rows linked =
    let name = brief_name 116 number few in
    let file = brief_file number few in
    let rows = brief_number table.rows linked.rows.1 in
    let pages = brief_number table.pages (omega (arith, linked.pages.1)) in
    let before = brief_number table.rows_before (omega (arith, linked.before)) in
    let eight = brief_number 8 (omega arith) in
    record {
      few = omega arith;
      brief = (
        omega arith,
        (
          name,
          (
            omega arith,
            (
              omega arith,
              (
                omega arith,
                (
                  rows,
                  (
                    omega arith,
                    (
                      pages,
                      (
                        omega arith,
                        (
                          file,
                          (
                            omega arith,
                            (
                              omega arith,
                              (
                                omega arith,
                                (
                                  omega arith,
                                  (
                                    eight,
                                    (
                                      omega arith,
                                      (
                                        rows,
                                        (
                                          omega arith,
                                          (omega arith, (omega arith, (omega arith, (eight, (omega arith, (before, (omega arith, tt))))))),
                                        ),
                                      ),
                                    ),
                                  ),
                                ),
                              ),
                            ),
                          ),
                        ),
                      ),
                    ),
                  ),
                ),
              ),
            ),
          ),
        ),
      );
    }

short_index : (number : ℕ) → number ≤ 8 → IsShortCatalogueStatement (Index (index_part number))
short_index number few =
    let name = brief_name 120 number few in
    let table = brief_name 116 number few in
    let one = brief_number 1 (omega arith) in
    record {
      few = omega arith;
      brief = (omega arith, (name, (omega arith, (table, (omega arith, (omega arith, (omega arith, (omega arith, (omega arith, (omega arith, (one, tt)))))))))));
    }

short_site : IsShortCatalogueStatement site_statement
short_site =
    let one = brief_number 1 (omega arith) in
    record { few = omega arith; brief = (omega arith, (omega arith, (omega arith, (one, (omega arith, (one, tt)))))) }

short_statements : (number rows_before : ℕ) (table : DrawnTable) → number ≤ 8 → rows_before ≤ 19 → IsLinked rows_before table
    → Every IsShortCatalogueStatement (table_statements number table) × (length (table_statements number table) ≤ 2)
short_statements number rows_before table few few_rows linked = ((short_table number rows_before table few few_rows linked, index table.is_indexed), count table.is_indexed) where
  index : (indexed : Bool) → Every IsShortCatalogueStatement (if indexed then Index (index_part number) ∷ [] else [])
  index true = (short_index number few, tt)
  index false = tt

  count : (indexed : Bool) → suc (length (if indexed then Index (index_part number) ∷ [] else [])) ≤ 2
  count true = omega arith
  count false = omega arith

short_from : (number rows_before : ℕ) (tables : List DrawnTable) → number + length tables ≤ 9 → rows_before ≤ 19 → AreLinked rows_before tables
    → Every IsShortCatalogueStatement (statements_from number tables) × (length (statements_from number tables) ≤ 2 * length tables)
short_from number rows_before [] few few_rows linked = (tt, omega arith)
short_from number rows_before (table ∷ later) few few_rows linked =
    let own = short_statements number rows_before table (omega (arith, few)) few_rows linked.0 in
    let rest = short_from (number + 1) table.rows later (omega (arith, few)) linked.0.rows.1 linked.1 in
    let own_count = own.1 in
    let rest_count = rest.1 in
    let count : length (table_statements number table ++ statements_from (number + 1) later) ≡ length (table_statements number table) + length (statements_from (number + 1) later) =
    length-append (table_statements number table) (statements_from (number + 1) later) in (
      every_both IsShortCatalogueStatement (table_statements number table) (statements_from (number + 1) later) own.0 rest.0,
      omega (arith, own_count, rest_count, count),
    )

pub short_catalogue : (seed size : ℕ) → IsSize size → IsShort (catalogue_text (drawn_tables seed size))
short_catalogue seed size is =
    let tables = drawn_tables seed size in
    let count = tables_count seed size in
    let short = short_from 1 1 tables (omega (arith, count, is.1)) (omega arith) (tables_linked seed size) in
    let all : Every IsShortStatement (map catalogue_lexemes (catalogue_statements tables)) =
    map_every catalogue_lexemes IsShortStatement IsShortCatalogueStatement (λ s h. h) (catalogue_statements tables) (short_site, short.0) in
    let bound = length-layout (map catalogue_lexemes (catalogue_statements tables)) all in
    let many : length (map catalogue_lexemes (catalogue_statements tables)) ≡ suc (length (statements_from 1 tables)) = length-map (catalogue_statements tables) catalogue_lexemes in
    let few = short.1 in
    omega (arith, bound, many, few, count, is.1)

-- ---- the query

pub short_query : (size : ℕ) → size ≤ 8 → IsShort (query_text size)
unfolding digits layout
short_query = up_to_8 (λ size. IsShort (query_text size)) (omega arith) (omega arith) (omega arith) (omega arith) (omega arith) (omega arith) (omega arith) (omega arith) (omega arith)
