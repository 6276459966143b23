-- The texts of a workload have the statements of which they are the layouts.
use Rattle.std.proofs.Common.{◌≡◌, ℕ, zero, suc, Bool, true, false, ◌||◌, ◌+◌, ◌-◌, ◌<◌, ◌≤◌, ◌^◌, if◌then◌else◌, List, [], ◌∷◌, ◌++◌, length, map, get_or, codes, refl, ap, ◌∙◌, arith}
use Rattle.std.specs.Prelude.{decimal}
use Rattle.std.specs.List.{range_with_len, AllPass}
use Rattle.std.specs.Str.Parse.{AllDigits}
use Rattle.std.proofs.lemmas.Bool.Decides.{nat_tests}
use Rattle.std.proofs.lemmas.Fmt.{decimal_is_IsNumeral}
use Rattle.std.proofs.lemmas.Str.Parse.{digit_at}
use Rattle.std.proofs.lemmas.List.Elements.{All-from_get_or}
use Rattle.sb_text.specs.Bytes.{begins_word, is_digit, is_in_word}
use Rattle.sb_text.specs.Forms.{IsWord}
use Rattle.star_model.specs.Every.{Every}
use Rattle.spelling.specs.Lexemes.{Word, Symbol, comma, joined_by}
use Rattle.spelling.specs.Layout.{IsLexeme}
use Rattle.spelling.specs.FormedLexemes.{Formed, given_word, given_symbol, a_comma, a_left_bracket, a_right_bracket, both, every_both, formed_series, map_every}
use Rattle.spelling.proofs.Laws.{statements_of_layout}
use Rattle.catalogue.specs.Catalogues.{CatalogueStatement, Table, Index, HasColumns, catalogue_lexemes}
use Rattle.catalogue.specs.Faults.{SaysStatements}
use Rattle.query_graph.specs.Queries.{ColumnName, Item, Comparison, IsQueryStatement, HasFreeQuantifier, HasFreeNames, ComparesFree, column_lexemes, columns_lexemes, item_lexemes, comparison_lexemes, where_lexemes, order_lexemes, query_lexemes}
use Rattle.query_graph.specs.Faults.{Says}
use Rattle.workload_gen.specs.declared.tables.DrawnTable.{DrawnTable}
use Rattle.workload_gen.specs.Tables.{drawn_tables}
use Rattle.workload_gen.specs.Links.{AreLinked}
use Rattle.workload_gen.specs.Names.{table_name, index_name, quantifier_name}
use Rattle.workload_gen.specs.CatalogueText.{site_statement, table_part, index_part, table_statements, statements_from, catalogue_statements, catalogue_text}
use Rattle.workload_gen.specs.QueryText.{id_of, item_of, link_of, query_statement, query_text}
use Rattle.workload_gen.specs.Workloads.{IsSize}
use Rattle.workload_gen.proofs.LinkLaws.{tables_linked, tables_count}

-- ---- names

or_true : (b : Bool) → (b || true) ≡ true
or_true true = refl
or_true false = refl

digit_test : (b : ℕ) → 48 ≤ b → b ≤ 57 → is_digit b ≡ true
digit_test b low high = grind (arith, nat_tests)

in_word : (b : ℕ) → 48 ≤ b → b ≤ 57 → is_in_word b ≡ true
in_word b low high = ap (λ d. begins_word b || d) (digit_test b low high) ∙ or_true (begins_word b)

digits_in_word : (ds : List ℕ) → AllDigits 10 ds → AllPass is_in_word ds
digits_in_word ds all = All-from_get_or (λ b. is_in_word b ≡ true) ds 0 (λ i lt. let at = digit_at ds i all lt in in_word (get_or ds i 0) at.0 at.1)

numbered_word : (letter number : ℕ) → begins_word letter ≡ true → number < 2 ^ 64 → IsWord (letter ∷ decimal number)
numbered_word letter number begins small = (begins, digits_in_word (decimal number) (decimal_is_IsNumeral number small).0.1)

abbrev IsNumber : ℕ → Type 0
IsNumber number = number ≤ 8

a_table_name : (number : ℕ) → IsNumber number → IsWord (table_name number)
a_table_name number few = numbered_word 116 number refl (omega arith)

an_index_name : (number : ℕ) → IsNumber number → IsWord (index_name number)
an_index_name number few = numbered_word 120 number refl (omega arith)

a_quantifier_name : (number : ℕ) → IsNumber number → IsWord (quantifier_name number)
a_quantifier_name number few = numbered_word 113 number refl (omega arith)

-- ---- the catalogue

-- the numbers of a table are small
record IsSmall (table : DrawnTable) : Type 0 where
  rows : table.rows < 10 ^ 19
  pages : table.pages < 10 ^ 19
  rows_before : table.rows_before < 10 ^ 19

a_dot : IsLexeme (Symbol (codes "."))
a_dot = given_symbol (codes ".") refl refl

formed_table : (number : ℕ) (table : DrawnTable) → IsNumber number → IsSmall table → Formed (catalogue_lexemes (Table (table_part number table)))
formed_table number table few small =
    let width : 8 < 10 ^ 19 = omega arith in (
      given_word (codes "table") refl,
      (
        a_table_name number few,
        (
          given_word (codes "at") refl,
          (
            given_word (codes "hq") refl,
            (
              given_word (codes "rows") refl,
              (
                small.rows,
                (
                  given_word (codes "pages") refl,
                  (
                    small.pages,
                    (
                      given_word (codes "file") refl,
                      (
                        tt,
                        (
                          a_left_bracket,
                          (
                            given_word (codes "id") refl,
                            (
                              given_word (codes "int") refl,
                              (
                                given_word (codes "width") refl,
                                (
                                  width,
                                  (
                                    given_word (codes "distinct") refl,
                                    (
                                      small.rows,
                                      (
                                        a_comma,
                                        (
                                          given_word (codes "prev") refl,
                                          (
                                            given_word (codes "int") refl,
                                            (
                                              given_word (codes "width") refl,
                                              (
                                                width,
                                                (
                                                  given_word (codes "distinct") refl,
                                                  (
                                                    small.rows_before,
                                                    (a_right_bracket, tt),
                                                  ),
                                                ),
                                              ),
                                            ),
                                          ),
                                        ),
                                      ),
                                    ),
                                  ),
                                ),
                              ),
                            ),
                          ),
                        ),
                      ),
                    ),
                  ),
                ),
              ),
            ),
          ),
        ),
      ),
    )

formed_index : (number : ℕ) → IsNumber number → Formed (catalogue_lexemes (Index (index_part number)))
formed_index number few =
    let page : 1 < 10 ^ 19 = omega arith in (
      given_word (codes "index") refl,
      (
        an_index_name number few,
        (
          given_word (codes "on") refl,
          (
            a_table_name number few,
            (a_left_bracket, (given_word (codes "prev") refl, (a_comma, (given_word (codes "id") refl, (a_right_bracket, (given_word (codes "pages") refl, (page, tt))))))),
          ),
        ),
      ),
    )

abbrev IsFormed : CatalogueStatement → Type 0
IsFormed statement = Formed (catalogue_lexemes statement)

formed_statements : (number : ℕ) (table : DrawnTable) → IsNumber number → IsSmall table → Every IsFormed (table_statements number table)
formed_statements number table few small = (formed_table number table few small, index table.is_indexed) where
  index : (indexed : Bool) → Every IsFormed (if indexed then Index (index_part number) ∷ [] else [])
  index true = (formed_index number few, tt)
  index false = tt

formed_from : (number : ℕ) (tables : List DrawnTable) → number + length tables ≤ 9 → Every IsSmall tables → Every IsFormed (statements_from number tables)
formed_from number [] few small = tt
formed_from number (table ∷ later) few small =
    every_both IsFormed (table_statements number table) (statements_from (number + 1) later)
    (formed_statements number table (omega arith) small.0) (formed_from (number + 1) later (omega arith) small.1)

have_columns : (number : ℕ) (tables : List DrawnTable) → Every HasColumns (statements_from number tables)
have_columns number [] = tt
have_columns number (table ∷ later) = every_both HasColumns (table_statements number table) (statements_from (number + 1) later) (tt, index table.is_indexed) (have_columns (number + 1) later) where
  index : (indexed : Bool) → Every HasColumns (if indexed then Index (index_part number) ∷ [] else [])
  index true = (tt, tt)
  index false = tt

all_small : (rows_before : ℕ) (tables : List DrawnTable) → rows_before ≤ 19 → AreLinked rows_before tables → Every IsSmall tables
all_small rows_before [] few linked = tt
all_small rows_before (table ∷ later) few linked =
    let first = linked.0 in
    (record { rows = omega arith; pages = omega arith; rows_before = omega arith }, all_small table.rows later first.rows.1 linked.1)

-- the text of the catalogue has these statements
pub catalogue_says : (seed size : ℕ) → IsSize size → SaysStatements (catalogue_text (drawn_tables seed size)) (catalogue_statements (drawn_tables seed size))
catalogue_says seed size is =
    let tables = drawn_tables seed size in
    let one : 1 < 10 ^ 19 = omega arith in
    let site : Formed (catalogue_lexemes site_statement) =
    (given_word (codes "site") refl, (given_word (codes "hq") refl, (given_word (codes "cpu") refl, (one, (given_word (codes "net") refl, (one, tt)))))) in
    let few : 1 + length tables ≤ 9 = omega (arith, tables_count seed size) in
    record {
      are = statements_of_layout (map catalogue_lexemes (catalogue_statements tables)) (
          map_every catalogue_lexemes Formed IsFormed (λ s h. h) (catalogue_statements tables) (site, formed_from 1 tables few (all_small 1 tables (omega arith) (tables_linked seed size)))
          );
      columns = (tt, have_columns 1 tables);
    }

-- ---- the query

an_id : (number : ℕ) → IsNumber number → Formed (column_lexemes (id_of number))
an_id number few = (a_quantifier_name number few, (a_dot, (given_word (codes "id") refl, tt)))

an_item : (number : ℕ) → IsNumber number → Formed (item_lexemes (item_of number))
an_item number few = (a_table_name number few, (a_quantifier_name number few, tt))

a_link : (number : ℕ) → IsNumber number → Formed (comparison_lexemes (link_of number))
a_link number few =
    (a_quantifier_name number few, (a_dot, (given_word (codes "prev") refl, (given_symbol (codes "=") refl refl, an_id (number - 1) (omega arith)))))

few_in_range : (from count : ℕ) → from + count ≤ 9 → Every IsNumber (range_with_len from count)
few_in_range from zero few = tt
few_in_range from (suc count) few = (omega arith, few_in_range (from + 1) count (omega arith))

each_in : {A : Type 0} (P : A → Type 0) (part : ℕ → A) → ((n : ℕ) → P (part n)) → (numbers : List ℕ) → Every P (map part numbers)
each_in P part holds [] = tt
each_in P part holds (n ∷ numbers) = (holds n, each_in P part holds numbers)

abbrev FormedColumn : ColumnName → Type 0
FormedColumn c = Formed (column_lexemes c)

abbrev FormedItem : Item → Type 0
FormedItem i = Formed (item_lexemes i)

abbrev FormedLink : Comparison → Type 0
FormedLink p = Formed (comparison_lexemes p)

formed_where : (ps : List Comparison) → Every FormedLink ps → Formed (where_lexemes ps)
formed_where [] formed = tt
formed_where (p ∷ ps) formed = (given_word (codes "where") refl, formed_series comparison_lexemes FormedLink (Word (codes "and")) (given_word (codes "and") refl) (λ x h. h) (p ∷ ps) formed)

stands : (size : ℕ) → 1 ≤ size → IsQueryStatement (query_statement size)
stands zero some = absurd (omega arith)
stands (suc size) some = record {
  some_columns = tt;
  some_items = tt;
  select = each_in HasFreeQuantifier id_of (λ n. refl) (range_with_len 1 (suc size));
  items = each_in HasFreeNames item_of (λ n. (refl, refl)) (range_with_len 1 (suc size));
  comparisons = each_in ComparesFree link_of (λ n. (refl, refl)) (range_with_len 2 (suc size - 1));
  order = (refl, tt);
  site = tt;
}

-- the text of the query has this statement
pub query_says : (size : ℕ) → IsSize size → Says (query_text size) (query_statement size)
query_says size is =
    let select = columns_lexemes (map id_of (range_with_len 1 size)) in
    let items = joined_by comma (map item_lexemes (map item_of (range_with_len 1 size))) in
    let links = where_lexemes (map link_of (range_with_len 2 (size - 1))) in
    let order = order_lexemes (id_of size ∷ []) in
    let numbers = few_in_range 1 size (omega arith) in
    let later = few_in_range 2 (size - 1) (omega arith) in
    let formed_select : Formed select =
    formed_series column_lexemes FormedColumn comma a_comma (λ x h. h) (map id_of (range_with_len 1 size)) (map_every id_of FormedColumn IsNumber an_id (range_with_len 1 size) numbers) in
    let formed_items : Formed items =
    formed_series item_lexemes FormedItem comma a_comma (λ x h. h) (map item_of (range_with_len 1 size)) (map_every item_of FormedItem IsNumber an_item (range_with_len 1 size) numbers) in
    let formed_links : Formed links =
    formed_where (map link_of (range_with_len 2 (size - 1))) (map_every link_of FormedLink IsNumber a_link (range_with_len 2 (size - 1)) later) in
    let formed_order : Formed order = (given_word (codes "order") refl, (given_word (codes "by") refl, an_id size is.1)) in
    let formed : Formed (query_lexemes (query_statement size)) = (
      given_word (codes "select") refl,
      both select (Word (codes "from") ∷ (items ++ (links ++ order))) formed_select
          (given_word (codes "from") refl, both items (links ++ order) formed_items (both links order formed_links formed_order)),
    ) in
    record { are = statements_of_layout (query_lexemes (query_statement size) ∷ []) (formed, tt); stands = stands size is.0 }
