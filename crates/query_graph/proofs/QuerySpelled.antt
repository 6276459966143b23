-- What is read as a query spells it.
use Rattle.std.proofs.Common.{◌≡◌, ℕ, List, [], ◌∷◌, ◌++◌, map, Option, Some, None, refl, ap, sym, ◌∙◌, codes}
use Rattle.std.proofs.lemmas.List.{append-nil}
use Rattle.std.proofs.lemmas.Option.{some_pair_parts}
use Rattle.spelling.specs.Lexemes.{Lexeme, Word, joined_by, comma}
use Rattle.star_model.specs.Every.{Every, HasItem}
use Rattle.query_graph.specs.Queries.{ColumnName, Item, Comparison, QueryStatement, column_lexemes, item_lexemes, comparison_lexemes, columns_lexemes, where_lexemes, order_lexemes, at_lexemes, IsFreeIfAny, HasFreeQuantifier, HasFreeNames, ComparesFree, SpellsQueryStatement}
use Rattle.spelling.specs.Reading.{the_word, the_symbol}
use Rattle.spelling.specs.ReadingCases.{pass, choose}
use Rattle.spelling.specs.SeriesReadingCases.{series_spelled}
use Rattle.spelling.proofs.Laws.{then_reads, the_word_reads, the_symbol_reads}
use Rattle.query_graph.specs.StatementReading.{free_word, column_at, columns_at, item_at, items_at, comparison_at, comparisons_at, where_at, order_at, site_at, query_at}
use Rattle.query_graph.proofs.PartsSpelled.{free_spelled, column_spelled, item_spelled, comparison_spelled}

columns_spelled : (lexemes : List Lexeme) (columns : List ColumnName) (rest : List Lexeme) → columns_at lexemes ≡ Some (columns, rest)
    → (lexemes ≡ columns_lexemes columns ++ rest) × HasItem columns × Every HasFreeQuantifier columns
unfolding columns_at
columns_spelled lexemes columns rest read = series_spelled column_at column_lexemes HasFreeQuantifier (the_symbol (codes ",")) comma (the_symbol_reads (codes ",")) column_spelled lexemes columns rest read

items_spelled : (lexemes : List Lexeme) (items : List Item) (rest : List Lexeme) → items_at lexemes ≡ Some (items, rest)
    → (lexemes ≡ joined_by comma (map item_lexemes items) ++ rest) × HasItem items × Every HasFreeNames items
unfolding items_at
items_spelled lexemes items rest read = series_spelled item_at item_lexemes HasFreeNames (the_symbol (codes ",")) comma (the_symbol_reads (codes ",")) item_spelled lexemes items rest read

comparisons_spelled : (lexemes : List Lexeme) (comparisons : List Comparison) (rest : List Lexeme) → comparisons_at lexemes ≡ Some (comparisons, rest)
    → (lexemes ≡ joined_by (Word (codes "and")) (map comparison_lexemes comparisons) ++ rest) × HasItem comparisons × Every ComparesFree comparisons
unfolding comparisons_at
comparisons_spelled lexemes comparisons rest read =
    series_spelled comparison_at comparison_lexemes ComparesFree (the_word (codes "and")) (Word (codes "and")) (the_word_reads (codes "and")) comparison_spelled lexemes comparisons rest read

-- a clause that has items
some_where : (comparisons : List Comparison) → HasItem comparisons → where_lexemes comparisons ≡ Word (codes "where") ∷ joined_by (Word (codes "and")) (map comparison_lexemes comparisons)
some_where [] some = absurd some
some_where (p ∷ ps) some = refl

some_order : (columns : List ColumnName) → HasItem columns → order_lexemes columns ≡ Word (codes "order") ∷ Word (codes "by") ∷ columns_lexemes columns
some_order [] some = absurd some
some_order (c ∷ cs) some = refl

where_spelled : (lexemes : List Lexeme) (comparisons : List Comparison) (rest : List Lexeme) → where_at lexemes ≡ Some (comparisons, rest)
    → (lexemes ≡ where_lexemes comparisons ++ rest) × Every ComparesFree comparisons
unfolding where_at
where_spelled l0 comparisons rest read =
    choose (the_word (codes "where")) _ _ l0 comparisons rest read
    (λ _ l1 e1 read1.
    let found = comparisons_spelled l1 comparisons rest read1 in
    ((the_word_reads (codes "where") l0 l1).0 e1 ∙ ap (λ l. Word (codes "where") ∷ l) found.0 ∙ ap (λ l. l ++ rest) (sym (some_where comparisons found.1)), found.2))
    (λ read1. let end = some_pair_parts [] comparisons l0 rest read1 in rw (sym end.0) (end.1, tt))

order_spelled : (lexemes : List Lexeme) (columns : List ColumnName) (rest : List Lexeme) → order_at lexemes ≡ Some (columns, rest)
    → (lexemes ≡ order_lexemes columns ++ rest) × Every HasFreeQuantifier columns
unfolding order_at
order_spelled l0 columns rest read =
    choose (the_word (codes "order")) _ _ l0 columns rest read
    (λ _ l1 e1 read1.
    pass (the_word (codes "by")) columns_at l1 columns rest read1 (λ l2 e2 read2.
    let found = columns_spelled l2 columns rest read2 in (
      (the_word_reads (codes "order") l0 l1).0 e1 ∙ ap (λ l. Word (codes "order") ∷ l) ((the_word_reads (codes "by") l1 l2).0 e2 ∙ ap (λ l. Word (codes "by") ∷ l) found.0)
          ∙ ap (λ l. l ++ rest) (sym (some_order columns found.1)),
      found.2,
    )))
    (λ read1. let end = some_pair_parts [] columns l0 rest read1 in rw (sym end.0) (end.1, tt))

site_spelled : (lexemes : List Lexeme) (site : Option (List ℕ)) (rest : List Lexeme) → site_at lexemes ≡ Some (site, rest) → (lexemes ≡ at_lexemes site ++ rest) × IsFreeIfAny site
unfolding site_at
site_spelled l0 site rest read =
    choose (the_word (codes "at")) _ _ l0 site rest read
    (λ _ l1 e1 read1.
    then_reads free_word _ l1 site rest read1 (λ name l2 e2 read2.
    let end = some_pair_parts (Some name) site l2 rest read2 in
    let found = free_spelled l1 name l2 e2 in
    rw (sym end.0) ((the_word_reads (codes "at") l0 l1).0 e1 ∙ ap (λ l. Word (codes "at") ∷ l) (found.0 ∙ ap (λ l. Word name ∷ l) end.1), found.1)))
    (λ read1. let end = some_pair_parts None site l0 rest read1 in rw (sym end.0) (end.1, tt))

pub query_spelled : (lexemes : List Lexeme) (q : QueryStatement) → query_at lexemes ≡ Some (q, []) → SpellsQueryStatement lexemes q
unfolding query_at
query_spelled l0 q read =
    pass (the_word (codes "select")) _ l0 q [] read (λ l1 e1 read1.
    then_reads columns_at _ l1 q [] read1 (λ select l2 e2 read2.
    pass (the_word (codes "from")) _ l2 q [] read2 (λ l3 e3 read3.
    then_reads items_at _ l3 q [] read3 (λ items l4 e4 read4.
    then_reads where_at _ l4 q [] read4 (λ comparisons l5 e5 read5.
    then_reads order_at _ l5 q [] read5 (λ order l6 e6 read6.
    then_reads site_at _ l6 q [] read6 (λ site l7 e7 read7.
    let end = some_pair_parts _ q l7 [] read7 in
    let chosen = columns_spelled l1 select l2 e2 in
    let from = items_spelled l3 items l4 e4 in
    let conditions = where_spelled l4 comparisons l5 e5 in
    let ordered = order_spelled l5 order l6 e6 in
    let placed = site_spelled l6 site l7 e7 in
    rw (sym end.0) (record {
      are = (the_word_reads (codes "select") l0 l1).0 e1
          ∙ ap (λ l. Word (codes "select") ∷ l) (chosen.0
          ∙ ap (λ l. columns_lexemes select ++ l) ((the_word_reads (codes "from") l2 l3).0 e3
          ∙ ap (λ l. Word (codes "from") ∷ l) (from.0
          ∙ ap (λ l. joined_by comma (map item_lexemes items) ++ l) (conditions.0
          ∙ ap (λ l. where_lexemes comparisons ++ l) (ordered.0
          ∙ ap (λ l. order_lexemes order ++ l) (placed.0 ∙ ap (λ l. at_lexemes site ++ l) end.1 ∙ append-nil (at_lexemes site)))))));
      stands = record {
        some_columns = chosen.1;
        some_items = from.1;
        select = chosen.2;
        items = from.2;
        comparisons = conditions.1;
        order = ordered.1;
        site = placed.1;
      };
    }))))))))
