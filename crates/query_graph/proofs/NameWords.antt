-- The names of a text's quantifiers are words, since its lexemes are those of tokens.
use Rattle.std.proofs.Common.{◌≡◌, ℕ, Bool, true, false, List, [], ◌∷◌, ◌++◌, map, Option, Some, None, unwrap_or, codes, refl, ◌∙◌}
use Rattle.std.specs.Prelude.{◌||◌, ◌&&◌}
use Rattle.std.specs.List.{list_all}
use Rattle.std.proofs.lemmas.Bool.{and_from}
use Rattle.std.proofs.lemmas.List.Sums.{list_all-from_AllPass}
use Rattle.sb_text.specs.Bytes.{begins_word, is_in_word}
use Rattle.sb_text.specs.Forms.{IsWord}
use Rattle.star_model.specs.Every.{Every}
use Rattle.star_model.specs.WellFormed.{is_between, is_letter, is_digit, is_word}
use Rattle.spelling.specs.Layout.{IsLexeme}
use Rattle.spelling.specs.Lexemes.{Lexeme, Word, comma, joined_by}
use Rattle.spelling.proofs.Laws.{formed_statements}
use Rattle.query_graph.specs.Queries.{Item, QueryStatement, quantifier_name, own_name, item_lexemes, columns_lexemes, where_lexemes, order_lexemes, at_lexemes, query_lexemes}
use Rattle.query_graph.specs.Faults.{Says}

swapped : (x y z : Bool) → (x || y || z) ≡ (y || x || z)
swapped true true z = refl
swapped true false z = refl
swapped false true z = refl
swapped false false z = refl

same_letter : (b : ℕ) → is_letter b ≡ begins_word b
same_letter b = swapped (is_between 97 122 b) (is_between 65 90 b) _

all_in : (bs : List ℕ) → list_all (λ c. is_letter c || is_digit c) bs ≡ list_all is_in_word bs
all_in [] = refl
all_in (b ∷ bs) = λ i. (same_letter b i || is_digit b) && all_in bs i

a_word : (bytes : List ℕ) → IsWord bytes → is_word bytes ≡ true
a_word [] word = absurd word
a_word (b ∷ rest) word = and_from _ _ (same_letter b ∙ word.0) (all_in rest ∙ list_all-from_AllPass is_in_word rest word.1)

every_front : {A : Type 0} (P : A → Type 0) (xs ys : List A) → Every P (xs ++ ys) → Every P xs
every_front P [] ys every = tt
every_front P (x ∷ xs) ys every = (every.0, every_front P xs ys every.1)

every_back : {A : Type 0} (P : A → Type 0) (xs ys : List A) → Every P (xs ++ ys) → Every P ys
every_back P [] ys every = every
every_back P (x ∷ xs) ys every = every_back P xs ys every.1

item_word : (table : List ℕ) (name : Option (List ℕ)) (rest : List Lexeme) → Every IsLexeme (Word table ∷ (own_name name ++ rest)) → is_word (unwrap_or name table) ≡ true
item_word table None rest every = a_word table every.0
item_word table (Some name) rest every = a_word name every.1.0

item_words : (items : List Item) → Every IsLexeme (joined_by comma (map item_lexemes items)) → Every (λ i. is_word (quantifier_name i) ≡ true) items
item_words [] every = tt
item_words (i ∷ []) every = (alone i.table i.name every, tt)
  where
    alone : (table : List ℕ) (name : Option (List ℕ)) → Every IsLexeme (Word table ∷ own_name name) → is_word (unwrap_or name table) ≡ true
    alone table None every = a_word table every.0
    alone table (Some name) every = a_word name every.1.0
item_words (i ∷ j ∷ items) every =
    let later = every_back IsLexeme (item_lexemes i) (comma ∷ joined_by comma (map item_lexemes (j ∷ items))) every in
    (item_word i.table i.name (comma ∷ joined_by comma (map item_lexemes (j ∷ items))) every, item_words (j ∷ items) later.1)

pub quantifier_words : (text : List ℕ) (q : QueryStatement) → Says text q → Every (λ i. is_word (quantifier_name i) ≡ true) q.items
quantifier_words text q says =
    let every = formed_statements text (query_lexemes q ∷ []) says.are in
    let restricted = where_lexemes q.comparisons ++ (order_lexemes q.order ++ at_lexemes q.site) in
    let items = joined_by comma (map item_lexemes q.items) in
    let behind = every_back IsLexeme (columns_lexemes q.select) (Word (codes "from") ∷ (items ++ restricted)) every.0.1 in
    item_words q.items (every_front IsLexeme items restricted behind.1)
