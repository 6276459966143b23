-- The parts of the query as they are written.
use Rattle.std.proofs.Common.{◌≡◌, ℕ, zero, suc, ◌+◌, ◌-◌, ◌<◌, ◌≤◌, List, [], ◌∷◌, ◌++◌, map, take, drop, get_or, length, codes, refl, sym, ap, ◌∙◌, arith}
use Rattle.std.proofs.lemmas.List.{take_all}
use Rattle.std.proofs.lemmas.List.Folds.{flat_map-map}
use Rattle.std.proofs.lemmas.Simd.{map-map}
use Rattle.std.specs.List.{range_with_len, flat_map}
use Rattle.spelling.specs.Lexemes.{Lexeme, Word, comma, joined_by}
use Rattle.spelling.specs.Writing.{Written, whole, put, puts, ended}
use Rattle.spelling.proofs.Laws.{puts-more, puts-none, puts-append, lines-more, lines-none, lines-layout, joined-first}
use Rattle.query_graph.specs.Queries.{column_lexemes, columns_lexemes, item_lexemes, comparison_lexemes, where_lexemes, order_lexemes, query_lexemes}
use Rattle.workload_gen.specs.QueryText.{id_of, item_of, link_of, query_statement, query_text}

-- the first numbers of a range are one
pub first_of_range : (from count first : ℕ) → first ≤ count → take first (range_with_len from count) ≡ range_with_len from first
first_of_range from count zero few = refl
first_of_range from zero (suc first) few = absurd (omega arith)
first_of_range from (suc count) (suc first) few = ap (λ l. from ∷ l) (first_of_range (from + 1) count first (omega arith))

-- parts that are made of numbers, with a lexeme between two
pub joined_parts : {A : Type 0} (between : Lexeme) (spell : A → List Lexeme) (part : ℕ → A) (numbers : List ℕ)
    → joined_by between (map (λ n. spell (part n)) numbers) ≡ joined_by between (map spell (map part numbers))
joined_parts between spell part numbers = ap (joined_by between) (sym (map-map spell part numbers))

-- all but the first
abbrev pub later_of : List ℕ → List ℕ
later_of numbers = take (length numbers - 1) (drop 1 numbers)

pub no_links : (w : Written) (numbers : List ℕ) → length numbers < 1 → w ≡ puts w (where_lexemes (map link_of numbers))
no_links w [] none = sym (puts-none w)
no_links w (n ∷ ns) none = absurd (omega arith)

abbrev spell : ℕ → List Lexeme
spell number = comparison_lexemes (link_of number)

abbrev pub further_link : ℕ → List Lexeme
further_link number = Word (codes "and") ∷ spell number

links_are : (number : ℕ) (numbers : List ℕ) → joined_by (Word (codes "and")) (map comparison_lexemes (map link_of (number ∷ numbers))) ≡ spell number ++ flat_map further_link numbers
links_are number numbers =
    joined-first (Word (codes "and")) (spell number) (map comparison_lexemes (map link_of numbers))
    ∙ ap (λ l. spell number ++ flat_map (λ part. Word (codes "and") ∷ part) l) (map-map comparison_lexemes link_of numbers)
    ∙ ap (λ l. spell number ++ l) (flat_map-map (λ part. Word (codes "and") ∷ part) spell numbers)

pub links_written : (w v u z : Written) (numbers : List ℕ) (number : ℕ) → 1 ≤ length numbers → number ≡ get_or numbers 0 number → v ≡ put w (Word (codes "where"))
    → u ≡ puts v (spell number) → z ≡ puts u (flat_map further_link (later_of numbers)) → z ≡ puts w (where_lexemes (map link_of numbers))
links_written w v u z [] number some at first second further = absurd (omega arith)
links_written w v u z (n ∷ ns) number some at first second further =
    let all : later_of (n ∷ ns) ≡ ns = ap (λ k. take k ns) (omega arith) ∙ take_all (length ns) ns (omega arith) in
    let rest = flat_map further_link ns in
    further ∙ ap (λ l. puts u (flat_map further_link l)) all
    ∙ ap (λ y. puts y rest) (second ∙ ap (λ m. puts v (spell m)) at ∙ ap (λ y. puts y (spell n)) first)
    ∙ sym (puts-append (put w (Word (codes "where"))) (spell n) rest)
    ∙ sym (puts-more w (Word (codes "where")) (spell n ++ rest))
    ∙ ap (λ l. puts w (Word (codes "where") ∷ l)) (sym (links_are n ns))

-- the whole statement
pub query_written : (w a b d e f g h i j : Written) (size : ℕ)
    → a ≡ put w (Word (codes "select")) → b ≡ puts a (columns_lexemes (map id_of (range_with_len 1 size)))
    → d ≡ put b (Word (codes "from")) → e ≡ puts d (joined_by comma (map item_lexemes (map item_of (range_with_len 1 size))))
    → f ≡ puts e (where_lexemes (map link_of (range_with_len 2 (size - 1))))
    → g ≡ put f (Word (codes "order")) → h ≡ put g (Word (codes "by")) → i ≡ puts h (column_lexemes (id_of size)) → j ≡ ended i
    → j ≡ ended (puts w (query_lexemes (query_statement size)))
unfolding puts
query_written w a b d e f g h i j size a_is b_is d_is e_is f_is g_is h_is i_is j_is =
    let ids = columns_lexemes (map id_of (range_with_len 1 size)) in
    let items = joined_by comma (map item_lexemes (map item_of (range_with_len 1 size))) in
    let links = where_lexemes (map link_of (range_with_len 2 (size - 1))) in
    let tail = order_lexemes (id_of size ∷ []) in
    let select = put w (Word (codes "select")) in
    let from = put (puts select ids) (Word (codes "from")) in
    let to_from : d ≡ from = d_is ∙ ap (λ z. put z (Word (codes "from"))) (b_is ∙ ap (λ z. puts z ids) a_is) in
    let to_links : f ≡ puts (puts from items) links = f_is ∙ ap (λ z. puts z links) (e_is ∙ ap (λ z. puts z items) to_from) in
    let to_end : i ≡ puts f tail =
    i_is ∙ ap (λ z. puts z (column_lexemes (id_of size))) (h_is ∙ ap (λ z. put z (Word (codes "by"))) g_is) in
    let all : i ≡ puts w (query_lexemes (query_statement size)) =
    to_end ∙ ap (λ z. puts z tail) to_links
    ∙ sym (puts-append (puts from items) links tail)
    ∙ sym (puts-append from items (links ++ tail))
    ∙ sym (puts-append select ids (Word (codes "from") ∷ (items ++ (links ++ tail)))) in
    j_is ∙ ap ended all

-- the whole text
pub query_is : (w : Written) (size : ℕ) → w ≡ ended (puts (whole []) (query_lexemes (query_statement size))) → w.text ≡ query_text size
query_is w size is =
    let statement = query_lexemes (query_statement size) in
    ap (λ (v : Written). v.text) (is ∙ sym (lines-none _) ∙ sym (lines-more (whole []) statement []) ∙ lines-layout [] (statement ∷ []))
