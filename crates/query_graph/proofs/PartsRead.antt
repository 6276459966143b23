-- What spells a part of a query is read as it, where what follows doesn't belong to it.
use Rattle.std.proofs.Common.{◌≡◌, ℕ, List, ◌∷◌, ◌++◌, Option, Some, None, refl}
use Rattle.star_model.specs.declared.query.Cmp.{Cmp}
use Rattle.star_model.specs.declared.query.Cmp.TheVariants as cmp
use Rattle.spelling.specs.Lexemes.{Lexeme, Word, dot, comma}
use Rattle.query_graph.specs.Queries.{ColumnName, Item, Whole, Negative, Quoted, Side, OfColumn, OfConstant, Comparison, column_lexemes, own_name, item_lexemes, cmp_lexeme, side_lexemes, comparison_lexemes, IsFree, IsFreeIfAny, HasFreeQuantifier, HasFreeNames, IsFreeSide, ComparesFree}
use Rattle.spelling.specs.SeriesReadingCases.{IsRead}
use Rattle.query_graph.specs.StatementReading.{free_word, column_at, own_name_at, item_at, cmp_at, negative_at, column_side_at, side_at, comparison_at}

pub free_read : (name : List ℕ) (rest : List Lexeme) → IsFree name → free_word (Word name ∷ rest) ≡ Some (name, rest)
unfolding free_word
free_read name rest is = rw is refl

pub column_read : (c : ColumnName) (rest : List Lexeme) → HasFreeQuantifier c → column_at (column_lexemes c ++ rest) ≡ Some (c, rest)
unfolding column_at
column_read c rest is = rw (free_read c.quantifier (dot ∷ Word c.column ∷ rest) is) refl

-- no name of the item's follows
abbrev pub NoName : List Lexeme → Type 0
NoName rest = free_word rest ≡ None

own_name_read : (name : Option (List ℕ)) (rest : List Lexeme) → IsFreeIfAny name → NoName rest → own_name_at (own_name name ++ rest) ≡ Some (name, rest)
unfolding own_name_at
own_name_read None rest is none = rw none refl
own_name_read (Some name) rest is none = rw (free_read name rest is) refl

pub item_read : (x : Item) (rest : List Lexeme) → HasFreeNames x → NoName rest → item_at (item_lexemes x ++ rest) ≡ Some (x, rest)
unfolding item_at
item_read x rest is none = rw (free_read x.table (own_name x.name ++ rest) is.0) (rw (own_name_read x.name rest is.1 none) refl)

cmp_read : (x : Cmp) (rest : List Lexeme) → cmp_at (cmp_lexeme x ∷ rest) ≡ Some (x, rest)
unfolding cmp_at
cmp_read cmp.Eq rest = refl
cmp_read cmp.Ne rest = refl
cmp_read cmp.Lt rest = refl
cmp_read cmp.Le rest = refl
cmp_read cmp.Gt rest = refl
cmp_read cmp.Ge rest = refl

side_read : (x : Side) (rest : List Lexeme) → IsFreeSide x → side_at (side_lexemes x ++ rest) ≡ Some (x, rest)
unfolding side_at negative_at column_side_at
side_read (OfColumn c) rest is = rw (column_read c rest is) refl
side_read (OfConstant (Whole n)) rest is = refl
side_read (OfConstant (Negative n)) rest is = refl
side_read (OfConstant (Quoted bytes)) rest is = refl

pub comparison_read : (x : Comparison) (rest : List Lexeme) → ComparesFree x → comparison_at (comparison_lexemes x ++ rest) ≡ Some (x, rest)
unfolding comparison_at
comparison_read x rest is =
    rw (column_read x.left (cmp_lexeme x.cmp ∷ (side_lexemes x.right ++ rest)) is.0) (
    rw (cmp_read x.cmp (side_lexemes x.right ++ rest)) (rw (side_read x.right rest is.1) refl))

-- ---- as the items of lists

abbrev pub Anything : List Lexeme → Type 0
Anything rest = Unit {0}

pub column_is_read : IsRead column_at column_lexemes HasFreeQuantifier Anything
column_is_read c rest good follows = column_read c rest good

pub comparison_is_read : IsRead comparison_at comparison_lexemes ComparesFree Anything
comparison_is_read x rest good follows = comparison_read x rest good

pub comma_is_no_name : (rest : List Lexeme) → NoName (comma ∷ rest)
unfolding free_word
comma_is_no_name rest = refl
