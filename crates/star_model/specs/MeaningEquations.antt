-- Written by tools/cases.py.
-- What the definitions of Meaning are of the values that code makes, for proofs about code.
use Rattle.std.specs.Prelude.{◌≡◌, refl, ℕ, List, []}
use denote.Hole.Carrier.{hidden}
use Rattle.star_model.specs.declared.rules.ValueExpr.TheBlock.{hidden-the_row-ValueExpr-0}
use Rattle.star_model.specs.declared.rules.ValueExpr.TheVariants as made_value
use Rattle.star_model.specs.declared.rules.Condition.TheBlock.{hidden-the_row-Condition-0}
use Rattle.star_model.specs.declared.rules.Condition.TheVariants as made_condition
use Rattle.std.specs.Prelude.{true, not, ◌&&◌, ◌||◌, nat_eq, Some, slice_index_or}
use Rattle.star_model.specs.Sets.{union, minus, meet, size}
use Rattle.star_model.specs.Predicates.{preds_where, eligible, crossing, all_quants}
use Rattle.star_model.specs.Vectors.{begins}
use Rattle.star_model.specs.declared.query.Query.{Query}
use Rattle.star_model.specs.declared.rules.ValueExpr.{ValueExpr}
use Rattle.star_model.specs.declared.rules.Condition.{Condition}
use Rattle.star_model.specs.declared.values.RuleValue.{RuleValue}
use Rattle.star_model.specs.declared.values.RuleValue.TheVariants as is
use Rattle.star_model.specs.Meaning.{as_stream, as_quants, as_preds, as_cols, as_site, as_index, on_sets, is_equality, index_columns, indexable_in, keys_of, home_of, site_asked, ordering, between_of, requiring, meaning, is_empty_value, is_part, same_value, holds}

pub meaning-Variable : (q : Query) (b : List RuleValue) (name : List ℕ) (place : ℕ) → meaning q b (made_value.Variable name place) ≡ (slice_index_or b place (is.Quants 0))
unfolding meaning
meaning-Variable q b name place = refl

pub meaning-WithOrder : (q : Query) (b : List RuleValue) (t : ValueExpr) (c : ValueExpr) → meaning q b (made_value.WithOrder t c) ≡ (let s = as_stream (meaning q b t) in requiring s (record s.require { order = as_cols (meaning q b c) }))
unfolding meaning hidden-the_row-ValueExpr-0 hidden
meaning-WithOrder q b t c = refl

pub meaning-WithSite : (q : Query) (b : List RuleValue) (t : ValueExpr) (c : ValueExpr) → meaning q b (made_value.WithSite t c) ≡ (let s = as_stream (meaning q b t) in requiring s (record s.require { site = Some (as_site (meaning q b c)) }))
unfolding meaning hidden-the_row-ValueExpr-0 hidden
meaning-WithSite q b t c = refl

pub meaning-WithTemp : (q : Query) (b : List RuleValue) (t : ValueExpr) → meaning q b (made_value.WithTemp t) ≡ (let s = as_stream (meaning q b t) in requiring s (record s.require { temp = true }))
unfolding meaning hidden-the_row-ValueExpr-0 hidden
meaning-WithTemp q b t = refl

pub meaning-WithPath : (q : Query) (b : List RuleValue) (t : ValueExpr) (c : ValueExpr) → meaning q b (made_value.WithPath t c) ≡ (let s = as_stream (meaning q b t) in requiring s (record s.require { path = as_cols (meaning q b c) }))
unfolding meaning hidden-the_row-ValueExpr-0 hidden
meaning-WithPath q b t c = refl

pub meaning-Tables : (q : Query) (b : List RuleValue) (t : ValueExpr) → meaning q b (made_value.Tables t) ≡ (is.Quants (as_stream (meaning q b t)).tables)
unfolding meaning hidden-the_row-ValueExpr-0 hidden
meaning-Tables q b t = refl

pub meaning-All : (q : Query) (b : List RuleValue) → meaning q b made_value.All ≡ (is.Quants (all_quants q))
unfolding meaning
meaning-All q b = refl

pub meaning-NoPreds : (q : Query) (b : List RuleValue) → meaning q b made_value.NoPreds ≡ (is.Preds 0)
unfolding meaning
meaning-NoPreds q b = refl

pub meaning-Inside : (q : Query) (b : List RuleValue) (s : ValueExpr) → meaning q b (made_value.Inside s) ≡ (is.Preds (eligible q (as_quants (meaning q b s))))
unfolding meaning hidden-the_row-ValueExpr-0 hidden
meaning-Inside q b s = refl

pub meaning-Crossing : (q : Query) (b : List RuleValue) (s : ValueExpr) → meaning q b (made_value.Crossing s) ≡ (is.Preds (crossing q (as_quants (meaning q b s))))
unfolding meaning hidden-the_row-ValueExpr-0 hidden
meaning-Crossing q b s = refl

pub meaning-Between : (q : Query) (b : List RuleValue) (s : ValueExpr) (t : ValueExpr) → meaning q b (made_value.Between s t) ≡ (is.Preds (between_of q (as_quants (meaning q b s)) (as_quants (meaning q b t))))
unfolding meaning hidden-the_row-ValueExpr-0 hidden
meaning-Between q b s t = refl

pub meaning-Equalities : (q : Query) (b : List RuleValue) (p : ValueExpr) → meaning q b (made_value.Equalities p) ≡ (is.Preds (meet (as_preds (meaning q b p)) (preds_where q is_equality)))
unfolding meaning hidden-the_row-ValueExpr-0 hidden
meaning-Equalities q b p = refl

pub meaning-Indexable : (q : Query) (b : List RuleValue) (t : ValueExpr) (x : ValueExpr) (p : ValueExpr) → meaning q b (made_value.Indexable t x p) ≡ (is.Preds (indexable_in q (as_stream (meaning q b t)).tables (as_index (meaning q b x)) (as_preds (meaning q b p))))
unfolding meaning hidden-the_row-ValueExpr-0 hidden
meaning-Indexable q b t x p = refl

pub meaning-NoCols : (q : Query) (b : List RuleValue) → meaning q b made_value.NoCols ≡ (is.Cols [])
unfolding meaning
meaning-NoCols q b = refl

pub meaning-OrderBy : (q : Query) (b : List RuleValue) → meaning q b made_value.OrderBy ≡ (is.Cols (ordering q))
unfolding meaning
meaning-OrderBy q b = refl

pub meaning-Columns : (q : Query) (b : List RuleValue) (t : ValueExpr) (x : ValueExpr) → meaning q b (made_value.Columns t x) ≡ (is.Cols (index_columns q (as_stream (meaning q b t)).tables (as_index (meaning q b x))))
unfolding meaning hidden-the_row-ValueExpr-0 hidden
meaning-Columns q b t x = refl

pub meaning-Keys : (q : Query) (b : List RuleValue) (p : ValueExpr) (s : ValueExpr) → meaning q b (made_value.Keys p s) ≡ (is.Cols (keys_of q (as_preds (meaning q b p)) (as_quants (meaning q b s))))
unfolding meaning hidden-the_row-ValueExpr-0 hidden
meaning-Keys q b p s = refl

pub meaning-Home : (q : Query) (b : List RuleValue) (t : ValueExpr) → meaning q b (made_value.Home t) ≡ (is.Site (home_of q (as_stream (meaning q b t)).tables))
unfolding meaning hidden-the_row-ValueExpr-0 hidden
meaning-Home q b t = refl

pub meaning-QuerySite : (q : Query) (b : List RuleValue) → meaning q b made_value.QuerySite ≡ (is.Site (site_asked q))
unfolding meaning
meaning-QuerySite q b = refl

pub meaning-Union : (q : Query) (b : List RuleValue) (v : ValueExpr) (w : ValueExpr) → meaning q b (made_value.Union v w) ≡ (on_sets union (meaning q b v) (meaning q b w))
unfolding meaning hidden-the_row-ValueExpr-0 hidden
meaning-Union q b v w = refl

pub meaning-Minus : (q : Query) (b : List RuleValue) (v : ValueExpr) (w : ValueExpr) → meaning q b (made_value.Minus v w) ≡ (on_sets minus (meaning q b v) (meaning q b w))
unfolding meaning hidden-the_row-ValueExpr-0 hidden
meaning-Minus q b v w = refl

pub meaning-Meet : (q : Query) (b : List RuleValue) (v : ValueExpr) (w : ValueExpr) → meaning q b (made_value.Meet v w) ≡ (on_sets meet (meaning q b v) (meaning q b w))
unfolding meaning hidden-the_row-ValueExpr-0 hidden
meaning-Meet q b v w = refl

pub holds-Empty : (q : Query) (b : List RuleValue) (v : ValueExpr) → holds q b (made_condition.Empty v) ≡ (is_empty_value (meaning q b v))
unfolding holds
holds-Empty q b v = refl

pub holds-Single : (q : Query) (b : List RuleValue) (v : ValueExpr) → holds q b (made_condition.Single v) ≡ (nat_eq (size (as_quants (meaning q b v))) 1)
unfolding holds
holds-Single q b v = refl

pub holds-Same : (q : Query) (b : List RuleValue) (v : ValueExpr) (w : ValueExpr) → holds q b (made_condition.Same v w) ≡ (same_value (meaning q b v) (meaning q b w))
unfolding holds
holds-Same q b v w = refl

pub holds-Within : (q : Query) (b : List RuleValue) (v : ValueExpr) (w : ValueExpr) → holds q b (made_condition.Within v w) ≡ (is_part (meaning q b v) (meaning q b w))
unfolding holds
holds-Within q b v w = refl

pub holds-Begins : (q : Query) (b : List RuleValue) (c : ValueExpr) (d : ValueExpr) → holds q b (made_condition.Begins c d) ≡ (begins (as_cols (meaning q b d)) (as_cols (meaning q b c)))
unfolding holds
holds-Begins q b c d = refl

pub holds-Not : (q : Query) (b : List RuleValue) (c : Condition) → holds q b (made_condition.Not c) ≡ (not (holds q b c))
unfolding holds hidden-the_row-Condition-0 hidden
holds-Not q b c = refl

pub holds-And : (q : Query) (b : List RuleValue) (c : Condition) (d : Condition) → holds q b (made_condition.And c d) ≡ (holds q b c && holds q b d)
unfolding holds hidden-the_row-Condition-0 hidden
holds-And q b c d = refl

pub holds-Or : (q : Query) (b : List RuleValue) (c : Condition) (d : Condition) → holds q b (made_condition.Or c d) ≡ (holds q b c || holds q b d)
unfolding holds hidden-the_row-Condition-0 hidden
holds-Or q b c d = refl

pub ruleset meaning_cases = (meaning-Variable, meaning-WithOrder, meaning-WithSite, meaning-WithTemp, meaning-WithPath, meaning-Tables, meaning-All, meaning-NoPreds, meaning-Inside, meaning-Crossing, meaning-Between, meaning-Equalities, meaning-Indexable, meaning-NoCols, meaning-OrderBy, meaning-Columns, meaning-Keys, meaning-Home, meaning-QuerySite, meaning-Union, meaning-Minus, meaning-Meet)

pub ruleset holds_cases = (holds-Empty, holds-Single, holds-Same, holds-Within, holds-Begins, holds-Not, holds-And, holds-Or)
