-- The lexemes of a value that code takes apart.
use Rattle.std.specs.Prelude.{◌≡◌, refl, ℕ, List, [], ◌∷◌, ◌++◌, codes}
use Rattle.std.proofs.Common.{length-append}
use denote.Hole.Carrier.{hidden}
use Rattle.star_model.specs.declared.rules.ValueExpr.{ValueExpr}
use Rattle.star_model.specs.declared.rules.ValueExpr.TheBlock.{hidden-the_row-ValueExpr-0}
use Rattle.star_model.specs.declared.rules.ValueExpr.TheVariants as made
use Rattle.spelling.specs.Lexemes.{Word, call}
use Rattle.rule_grammar.specs.Values.{in_squares, value_lexemes}
use Rattle.spelling.proofs.Laws.{puts-none, puts-more, puts-append}

pub lexemes-Variable : (name : List ℕ) (place : ℕ) → value_lexemes (made.Variable name place) ≡ Word name ∷ []
unfolding value_lexemes
lexemes-Variable name place = refl

pub lexemes-All : value_lexemes made.All ≡ Word (codes "all") ∷ []
unfolding value_lexemes
lexemes-All = refl

pub lexemes-NoPreds : value_lexemes made.NoPreds ≡ Word (codes "none") ∷ []
unfolding value_lexemes
lexemes-NoPreds = refl

pub lexemes-NoCols : value_lexemes made.NoCols ≡ Word (codes "nocols") ∷ []
unfolding value_lexemes
lexemes-NoCols = refl

pub lexemes-OrderBy : value_lexemes made.OrderBy ≡ Word (codes "orderby") ∷ []
unfolding value_lexemes
lexemes-OrderBy = refl

pub lexemes-QuerySite : value_lexemes made.QuerySite ≡ Word (codes "querysite") ∷ []
unfolding value_lexemes
lexemes-QuerySite = refl

pub lexemes-WithOrder : (t v : ValueExpr) → value_lexemes (made.WithOrder t v) ≡ value_lexemes t ++ in_squares (Word (codes "order") ∷ value_lexemes v)
unfolding value_lexemes hidden-the_row-ValueExpr-0 hidden
lexemes-WithOrder t v = refl

pub lexemes-WithSite : (t v : ValueExpr) → value_lexemes (made.WithSite t v) ≡ value_lexemes t ++ in_squares (Word (codes "site") ∷ value_lexemes v)
unfolding value_lexemes hidden-the_row-ValueExpr-0 hidden
lexemes-WithSite t v = refl

pub lexemes-WithPath : (t v : ValueExpr) → value_lexemes (made.WithPath t v) ≡ value_lexemes t ++ in_squares (Word (codes "path") ∷ value_lexemes v)
unfolding value_lexemes hidden-the_row-ValueExpr-0 hidden
lexemes-WithPath t v = refl

pub lexemes-WithTemp : (t : ValueExpr) → value_lexemes (made.WithTemp t) ≡ value_lexemes t ++ in_squares (Word (codes "temp") ∷ [])
unfolding value_lexemes hidden-the_row-ValueExpr-0 hidden
lexemes-WithTemp t = refl

pub lexemes-Tables : (v : ValueExpr) → value_lexemes (made.Tables v) ≡ call (codes "tables") (value_lexemes v ∷ [])
unfolding value_lexemes hidden-the_row-ValueExpr-0 hidden
lexemes-Tables v = refl

pub lexemes-Inside : (v : ValueExpr) → value_lexemes (made.Inside v) ≡ call (codes "inside") (value_lexemes v ∷ [])
unfolding value_lexemes hidden-the_row-ValueExpr-0 hidden
lexemes-Inside v = refl

pub lexemes-Crossing : (v : ValueExpr) → value_lexemes (made.Crossing v) ≡ call (codes "crossing") (value_lexemes v ∷ [])
unfolding value_lexemes hidden-the_row-ValueExpr-0 hidden
lexemes-Crossing v = refl

pub lexemes-Equalities : (v : ValueExpr) → value_lexemes (made.Equalities v) ≡ call (codes "equalities") (value_lexemes v ∷ [])
unfolding value_lexemes hidden-the_row-ValueExpr-0 hidden
lexemes-Equalities v = refl

pub lexemes-Home : (v : ValueExpr) → value_lexemes (made.Home v) ≡ call (codes "home") (value_lexemes v ∷ [])
unfolding value_lexemes hidden-the_row-ValueExpr-0 hidden
lexemes-Home v = refl

pub lexemes-Between : (v w : ValueExpr) → value_lexemes (made.Between v w) ≡ call (codes "between") (value_lexemes v ∷ value_lexemes w ∷ [])
unfolding value_lexemes hidden-the_row-ValueExpr-0 hidden
lexemes-Between v w = refl

pub lexemes-Columns : (v w : ValueExpr) → value_lexemes (made.Columns v w) ≡ call (codes "columns") (value_lexemes v ∷ value_lexemes w ∷ [])
unfolding value_lexemes hidden-the_row-ValueExpr-0 hidden
lexemes-Columns v w = refl

pub lexemes-Keys : (v w : ValueExpr) → value_lexemes (made.Keys v w) ≡ call (codes "keys") (value_lexemes v ∷ value_lexemes w ∷ [])
unfolding value_lexemes hidden-the_row-ValueExpr-0 hidden
lexemes-Keys v w = refl

pub lexemes-Union : (v w : ValueExpr) → value_lexemes (made.Union v w) ≡ call (codes "union") (value_lexemes v ∷ value_lexemes w ∷ [])
unfolding value_lexemes hidden-the_row-ValueExpr-0 hidden
lexemes-Union v w = refl

pub lexemes-Minus : (v w : ValueExpr) → value_lexemes (made.Minus v w) ≡ call (codes "minus") (value_lexemes v ∷ value_lexemes w ∷ [])
unfolding value_lexemes hidden-the_row-ValueExpr-0 hidden
lexemes-Minus v w = refl

pub lexemes-Meet : (v w : ValueExpr) → value_lexemes (made.Meet v w) ≡ call (codes "meet") (value_lexemes v ∷ value_lexemes w ∷ [])
unfolding value_lexemes hidden-the_row-ValueExpr-0 hidden
lexemes-Meet v w = refl

pub lexemes-Indexable : (t x v : ValueExpr) → value_lexemes (made.Indexable t x v) ≡ call (codes "indexable") (value_lexemes t ∷ value_lexemes x ∷ value_lexemes v ∷ [])
unfolding value_lexemes hidden-the_row-ValueExpr-0 hidden
lexemes-Indexable t x v = refl

pub ruleset values = (lexemes-Variable, lexemes-All, lexemes-NoPreds, lexemes-NoCols, lexemes-OrderBy, lexemes-QuerySite, lexemes-WithOrder, lexemes-WithSite, lexemes-WithPath, lexemes-WithTemp, lexemes-Tables, lexemes-Inside, lexemes-Crossing, lexemes-Equalities, lexemes-Home, lexemes-Between, lexemes-Columns, lexemes-Keys, lexemes-Union, lexemes-Minus, lexemes-Meet, lexemes-Indexable, puts-none, puts-more, puts-append, length-append)
