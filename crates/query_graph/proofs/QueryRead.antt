-- What spells a query is read as it.
use Rattle.std.proofs.Common.{◌≡◌, ℕ, List, [], ◌∷◌, ◌++◌, map, Option, Some, None, refl, codes}
use Rattle.spelling.specs.Lexemes.{Lexeme, Word, joined_by, comma}
use Rattle.star_model.specs.Every.{Every, HasItem}
use Rattle.query_graph.specs.Queries.{ColumnName, Item, Comparison, QueryStatement, column_lexemes, item_lexemes, comparison_lexemes, columns_lexemes, where_lexemes, order_lexemes, at_lexemes, query_lexemes, IsFreeIfAny, HasFreeQuantifier, HasFreeNames, ComparesFree, IsQueryStatement}
use Rattle.spelling.specs.Reading.{the_word, the_symbol}
use Rattle.spelling.specs.SeriesReadingCases.{series_read}
use Rattle.spelling.proofs.Laws.{the_word_reads, the_symbol_reads}
use Rattle.query_graph.specs.StatementReading.{free_word, column_at, columns_at, item_at, items_at, comparison_at, comparisons_at, where_at, order_at, site_at, query_at}
use Rattle.query_graph.proofs.PartsRead.{Anything, NoName, free_read, column_is_read, item_read, comparison_is_read, comma_is_no_name}

columns_read : (columns : List ColumnName) (rest : List Lexeme) → HasItem columns → Every HasFreeQuantifier columns → the_symbol (codes ",") rest ≡ None → columns_at (columns_lexemes columns ++ rest) ≡ Some (columns, rest)
unfolding columns_at
columns_read columns rest some good ends =
    series_read column_at column_lexemes HasFreeQuantifier (the_symbol (codes ",")) comma (the_symbol_reads (codes ",")) Anything column_is_read (λ _. tt) columns rest some good tt ends

items_read : (items : List Item) (rest : List Lexeme) → HasItem items → Every HasFreeNames items → NoName rest → the_symbol (codes ",") rest ≡ None → items_at (joined_by comma (map item_lexemes items) ++ rest) ≡ Some (items, rest)
unfolding items_at
items_read items rest some good none ends =
    series_read item_at item_lexemes HasFreeNames (the_symbol (codes ",")) comma (the_symbol_reads (codes ",")) NoName item_read comma_is_no_name items rest some good none ends

comparisons_read : (comparisons : List Comparison) (rest : List Lexeme) → HasItem comparisons → Every ComparesFree comparisons → the_word (codes "and") rest ≡ None
    → comparisons_at (joined_by (Word (codes "and")) (map comparison_lexemes comparisons) ++ rest) ≡ Some (comparisons, rest)
unfolding comparisons_at
comparisons_read comparisons rest some good ends =
    series_read comparison_at comparison_lexemes ComparesFree (the_word (codes "and")) (Word (codes "and")) (the_word_reads (codes "and")) Anything comparison_is_read (λ _. tt) comparisons rest some good tt ends

-- ---- what follows a part

abbrev placed : Option (List ℕ) → List Lexeme
placed site = at_lexemes site

abbrev ordered : List ColumnName → Option (List ℕ) → List Lexeme
ordered order site = order_lexemes order ++ placed site

abbrev restricted : List Comparison → List ColumnName → Option (List ℕ) → List Lexeme
restricted comparisons order site = where_lexemes comparisons ++ ordered order site

no_comma_placed : (site : Option (List ℕ)) → the_symbol (codes ",") (placed site) ≡ None
no_comma_placed None = refl
no_comma_placed (Some name) = refl

no_order : (site : Option (List ℕ)) → the_word (codes "order") (placed site) ≡ None
no_order None = refl
no_order (Some name) = refl

no_and : (order : List ColumnName) (site : Option (List ℕ)) → the_word (codes "and") (ordered order site) ≡ None
no_and [] None = refl
no_and [] (Some name) = refl
no_and (c ∷ cs) site = refl

no_where : (order : List ColumnName) (site : Option (List ℕ)) → the_word (codes "where") (ordered order site) ≡ None
no_where [] None = refl
no_where [] (Some name) = refl
no_where (c ∷ cs) site = refl

no_comma : (comparisons : List Comparison) (order : List ColumnName) (site : Option (List ℕ)) → the_symbol (codes ",") (restricted comparisons order site) ≡ None
no_comma [] [] None = refl
no_comma [] [] (Some name) = refl
no_comma [] (c ∷ cs) site = refl
no_comma (p ∷ ps) order site = refl

no_name : (comparisons : List Comparison) (order : List ColumnName) (site : Option (List ℕ)) → NoName (restricted comparisons order site)
unfolding free_word
no_name [] [] None = refl
no_name [] [] (Some name) = refl
no_name [] (c ∷ cs) site = refl
no_name (p ∷ ps) order site = refl

-- ---- the clauses

where_read : (comparisons : List Comparison) (order : List ColumnName) (site : Option (List ℕ)) → Every ComparesFree comparisons → where_at (restricted comparisons order site) ≡ Some (comparisons, ordered order site)
unfolding where_at
where_read [] order site good = rw (no_where order site) refl
where_read (p ∷ ps) order site good = comparisons_read (p ∷ ps) (ordered order site) tt good (no_and order site)

order_read : (order : List ColumnName) (site : Option (List ℕ)) → Every HasFreeQuantifier order → order_at (ordered order site) ≡ Some (order, placed site)
unfolding order_at
order_read [] site good = rw (no_order site) refl
order_read (c ∷ cs) site good = columns_read (c ∷ cs) (placed site) tt good (no_comma_placed site)

site_read : (site : Option (List ℕ)) → IsFreeIfAny site → site_at (placed site) ≡ Some (site, [])
unfolding site_at
site_read None free = refl
site_read (Some name) free = rw (free_read name [] free) refl

pub query_read : (q : QueryStatement) → IsQueryStatement q → query_at (query_lexemes q) ≡ Some (q, [])
unfolding query_at
query_read q stands =
    rw (columns_read q.select (Word (codes "from") ∷ (joined_by comma (map item_lexemes q.items) ++ restricted q.comparisons q.order q.site)) stands.some_columns stands.select refl) (
    rw (items_read q.items (restricted q.comparisons q.order q.site) stands.some_items stands.items (no_name q.comparisons q.order q.site) (no_comma q.comparisons q.order q.site)) (
    rw (where_read q.comparisons q.order q.site stands.comparisons) (rw (order_read q.order q.site stands.order) (rw (site_read q.site stands.site) refl))))
