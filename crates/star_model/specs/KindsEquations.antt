-- Written by tools/cases.py.
-- What the definitions of Kinds are of the values that code makes, for proofs about code.
use Rattle.std.specs.Prelude.{◌≡◌, refl, ℕ, List}
use denote.Hole.Carrier.{hidden}
use Rattle.star_model.specs.declared.rules.ValueExpr.TheBlock.{hidden-the_row-ValueExpr-0}
use Rattle.star_model.specs.declared.rules.ValueExpr.TheVariants as made_value
use Rattle.star_model.specs.declared.rules.Condition.TheBlock.{hidden-the_row-Condition-0}
use Rattle.star_model.specs.declared.rules.Condition.TheVariants as made_condition
use Rattle.std.specs.Prelude.{◌&&◌, ◌||◌, Some, slice_get, is_some}
use Rattle.star_model.specs.declared.rules.ValueExpr.{ValueExpr}
use Rattle.star_model.specs.declared.rules.Condition.{Condition}
use Rattle.star_model.specs.declared.rules.Kind.{Kind}
use Rattle.star_model.specs.declared.rules.Kind.TheVariants as kind
use Rattle.star_model.specs.Kinds.{asks, given, sets_of, kind_of, one_kind, is_kinded}

pub kind_of-Variable : (ks : List Kind) (name : List ℕ) (place : ℕ) → kind_of ks (made_value.Variable name place) ≡ (slice_get ks place)
unfolding kind_of
kind_of-Variable ks name place = refl

pub kind_of-WithOrder : (ks : List Kind) (t : ValueExpr) (c : ValueExpr) → kind_of ks (made_value.WithOrder t c) ≡ (given (asks kind.Stream (kind_of ks t) && asks kind.Cols (kind_of ks c)) kind.Stream)
unfolding kind_of hidden-the_row-ValueExpr-0 hidden
kind_of-WithOrder ks t c = refl

pub kind_of-WithSite : (ks : List Kind) (t : ValueExpr) (c : ValueExpr) → kind_of ks (made_value.WithSite t c) ≡ (given (asks kind.Stream (kind_of ks t) && asks kind.Site (kind_of ks c)) kind.Stream)
unfolding kind_of hidden-the_row-ValueExpr-0 hidden
kind_of-WithSite ks t c = refl

pub kind_of-WithTemp : (ks : List Kind) (t : ValueExpr) → kind_of ks (made_value.WithTemp t) ≡ (given (asks kind.Stream (kind_of ks t)) kind.Stream)
unfolding kind_of hidden-the_row-ValueExpr-0 hidden
kind_of-WithTemp ks t = refl

pub kind_of-WithPath : (ks : List Kind) (t : ValueExpr) (c : ValueExpr) → kind_of ks (made_value.WithPath t c) ≡ (given (asks kind.Stream (kind_of ks t) && asks kind.Cols (kind_of ks c)) kind.Stream)
unfolding kind_of hidden-the_row-ValueExpr-0 hidden
kind_of-WithPath ks t c = refl

pub kind_of-Tables : (ks : List Kind) (t : ValueExpr) → kind_of ks (made_value.Tables t) ≡ (given (asks kind.Stream (kind_of ks t)) kind.Quants)
unfolding kind_of hidden-the_row-ValueExpr-0 hidden
kind_of-Tables ks t = refl

pub kind_of-All : (ks : List Kind) → kind_of ks made_value.All ≡ (Some kind.Quants)
unfolding kind_of
kind_of-All ks = refl

pub kind_of-NoPreds : (ks : List Kind) → kind_of ks made_value.NoPreds ≡ (Some kind.Preds)
unfolding kind_of
kind_of-NoPreds ks = refl

pub kind_of-Inside : (ks : List Kind) (s : ValueExpr) → kind_of ks (made_value.Inside s) ≡ (given (asks kind.Quants (kind_of ks s)) kind.Preds)
unfolding kind_of hidden-the_row-ValueExpr-0 hidden
kind_of-Inside ks s = refl

pub kind_of-Crossing : (ks : List Kind) (s : ValueExpr) → kind_of ks (made_value.Crossing s) ≡ (given (asks kind.Quants (kind_of ks s)) kind.Preds)
unfolding kind_of hidden-the_row-ValueExpr-0 hidden
kind_of-Crossing ks s = refl

pub kind_of-Between : (ks : List Kind) (s : ValueExpr) (t : ValueExpr) → kind_of ks (made_value.Between s t) ≡ (given (asks kind.Quants (kind_of ks s) && asks kind.Quants (kind_of ks t)) kind.Preds)
unfolding kind_of hidden-the_row-ValueExpr-0 hidden
kind_of-Between ks s t = refl

pub kind_of-Equalities : (ks : List Kind) (p : ValueExpr) → kind_of ks (made_value.Equalities p) ≡ (given (asks kind.Preds (kind_of ks p)) kind.Preds)
unfolding kind_of hidden-the_row-ValueExpr-0 hidden
kind_of-Equalities ks p = refl

pub kind_of-Indexable : (ks : List Kind) (t : ValueExpr) (x : ValueExpr) (p : ValueExpr) → kind_of ks (made_value.Indexable t x p) ≡ (given (asks kind.Stream (kind_of ks t) && asks kind.Index (kind_of ks x) && asks kind.Preds (kind_of ks p)) kind.Preds)
unfolding kind_of hidden-the_row-ValueExpr-0 hidden
kind_of-Indexable ks t x p = refl

pub kind_of-NoCols : (ks : List Kind) → kind_of ks made_value.NoCols ≡ (Some kind.Cols)
unfolding kind_of
kind_of-NoCols ks = refl

pub kind_of-OrderBy : (ks : List Kind) → kind_of ks made_value.OrderBy ≡ (Some kind.Cols)
unfolding kind_of
kind_of-OrderBy ks = refl

pub kind_of-Columns : (ks : List Kind) (t : ValueExpr) (x : ValueExpr) → kind_of ks (made_value.Columns t x) ≡ (given (asks kind.Stream (kind_of ks t) && asks kind.Index (kind_of ks x)) kind.Cols)
unfolding kind_of hidden-the_row-ValueExpr-0 hidden
kind_of-Columns ks t x = refl

pub kind_of-Keys : (ks : List Kind) (p : ValueExpr) (s : ValueExpr) → kind_of ks (made_value.Keys p s) ≡ (given (asks kind.Preds (kind_of ks p) && asks kind.Quants (kind_of ks s)) kind.Cols)
unfolding kind_of hidden-the_row-ValueExpr-0 hidden
kind_of-Keys ks p s = refl

pub kind_of-Home : (ks : List Kind) (t : ValueExpr) → kind_of ks (made_value.Home t) ≡ (given (asks kind.Stream (kind_of ks t)) kind.Site)
unfolding kind_of hidden-the_row-ValueExpr-0 hidden
kind_of-Home ks t = refl

pub kind_of-QuerySite : (ks : List Kind) → kind_of ks made_value.QuerySite ≡ (Some kind.Site)
unfolding kind_of
kind_of-QuerySite ks = refl

pub kind_of-Union : (ks : List Kind) (v : ValueExpr) (w : ValueExpr) → kind_of ks (made_value.Union v w) ≡ (sets_of (kind_of ks v) (kind_of ks w))
unfolding kind_of hidden-the_row-ValueExpr-0 hidden
kind_of-Union ks v w = refl

pub kind_of-Minus : (ks : List Kind) (v : ValueExpr) (w : ValueExpr) → kind_of ks (made_value.Minus v w) ≡ (sets_of (kind_of ks v) (kind_of ks w))
unfolding kind_of hidden-the_row-ValueExpr-0 hidden
kind_of-Minus ks v w = refl

pub kind_of-Meet : (ks : List Kind) (v : ValueExpr) (w : ValueExpr) → kind_of ks (made_value.Meet v w) ≡ (sets_of (kind_of ks v) (kind_of ks w))
unfolding kind_of hidden-the_row-ValueExpr-0 hidden
kind_of-Meet ks v w = refl

pub is_kinded-Empty : (ks : List Kind) (v : ValueExpr) → is_kinded ks (made_condition.Empty v) ≡ (asks kind.Quants (kind_of ks v) || asks kind.Preds (kind_of ks v) || asks kind.Cols (kind_of ks v))
unfolding is_kinded
is_kinded-Empty ks v = refl

pub is_kinded-Single : (ks : List Kind) (v : ValueExpr) → is_kinded ks (made_condition.Single v) ≡ (asks kind.Quants (kind_of ks v))
unfolding is_kinded
is_kinded-Single ks v = refl

pub is_kinded-Same : (ks : List Kind) (v : ValueExpr) (w : ValueExpr) → is_kinded ks (made_condition.Same v w) ≡ (one_kind (kind_of ks v) (kind_of ks w))
unfolding is_kinded
is_kinded-Same ks v w = refl

pub is_kinded-Within : (ks : List Kind) (v : ValueExpr) (w : ValueExpr) → is_kinded ks (made_condition.Within v w) ≡ (is_some (sets_of (kind_of ks v) (kind_of ks w)))
unfolding is_kinded
is_kinded-Within ks v w = refl

pub is_kinded-Begins : (ks : List Kind) (c : ValueExpr) (d : ValueExpr) → is_kinded ks (made_condition.Begins c d) ≡ (asks kind.Cols (kind_of ks c) && asks kind.Cols (kind_of ks d))
unfolding is_kinded
is_kinded-Begins ks c d = refl

pub is_kinded-Not : (ks : List Kind) (c : Condition) → is_kinded ks (made_condition.Not c) ≡ (is_kinded ks c)
unfolding is_kinded hidden-the_row-Condition-0 hidden
is_kinded-Not ks c = refl

pub is_kinded-And : (ks : List Kind) (c : Condition) (d : Condition) → is_kinded ks (made_condition.And c d) ≡ (is_kinded ks c && is_kinded ks d)
unfolding is_kinded hidden-the_row-Condition-0 hidden
is_kinded-And ks c d = refl

pub is_kinded-Or : (ks : List Kind) (c : Condition) (d : Condition) → is_kinded ks (made_condition.Or c d) ≡ (is_kinded ks c && is_kinded ks d)
unfolding is_kinded hidden-the_row-Condition-0 hidden
is_kinded-Or ks c d = refl

pub ruleset kind_of_cases = (kind_of-Variable, kind_of-WithOrder, kind_of-WithSite, kind_of-WithTemp, kind_of-WithPath, kind_of-Tables, kind_of-All, kind_of-NoPreds, kind_of-Inside, kind_of-Crossing, kind_of-Between, kind_of-Equalities, kind_of-Indexable, kind_of-NoCols, kind_of-OrderBy, kind_of-Columns, kind_of-Keys, kind_of-Home, kind_of-QuerySite, kind_of-Union, kind_of-Minus, kind_of-Meet)

pub ruleset is_kinded_cases = (is_kinded-Empty, is_kinded-Single, is_kinded-Same, is_kinded-Within, is_kinded-Begins, is_kinded-Not, is_kinded-And, is_kinded-Or)
