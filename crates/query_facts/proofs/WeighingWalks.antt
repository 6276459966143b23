-- A walk over a query's predicates that gives each its selectivity.
use Rattle.std.proofs.Common.{◌≡◌, ℕ, ◌+◌, ◌≤◌, arith, List, [], ◌∷◌, ◌++◌, zero, suc, length, take, drop, refl, ap, sym, add-one}
use Rattle.std.proofs.Math.ListN.{length-set}
use Rattle.std.specs.Prelude.{map, Option, Some, None, slice_get, slice_set}
use Rattle.std.specs.Option.{option_map_or}
use Rattle.star_model.specs.Selectivity.{weighed_pred, weighed}
use Rattle.star_model.specs.declared.query.Query.{Query}
use Rattle.star_model.specs.declared.query.Pred.{Pred}
use Rattle.star_model.specs.declared.selects.SelectEntry.{SelectEntry}
use Rattle.query_facts.specs.Weighing.{weighed_at}

-- the list, its items from this position on changed
abbrev mapped_from : (Pred → Pred) → List Pred → ℕ → List Pred
mapped_from f ps n = take n ps ++ map f (drop n ps)

-- the query, with the selectivities of its predicates from this position on
unfoldable pub weighed_from : List SelectEntry → Query → ℕ → Query
weighed_from selects q n = record q { preds = mapped_from (weighed_pred selects q) q.preds n }

pub weighed_first : (selects : List SelectEntry) (q : Query) → weighed_from selects q 0 ≡ weighed selects q
unfolding weighed_from weighed
weighed_first selects q = refl

all_mapped : (f : Pred → Pred) (ps : List Pred) (n : ℕ) → length ps ≤ n → mapped_from f ps n ≡ ps
all_mapped f [] zero h = refl
all_mapped f [] (suc n) h = refl
all_mapped f (p ∷ ps) zero h = elim h [ ]
all_mapped f (p ∷ ps) (suc n) h = ap (λ rest. p ∷ rest) (all_mapped f ps n (omega arith))

pub weighed_last : (selects : List SelectEntry) (q : Query) (n : ℕ) → length q.preds ≤ n → weighed_from selects q n ≡ q
unfolding weighed_from
weighed_last selects q n h = ap (λ ps. record q { preds = ps }) (all_mapped (weighed_pred selects q) q.preds n h)

one_mapped : (f : Pred → Pred) (ps : List Pred) (n : ℕ) (p : Pred) → slice_get ps n ≡ Some p → mapped_from f (slice_set ps n (f p)) (suc n) ≡ mapped_from f ps n
one_mapped f [] n p e = cc
one_mapped f (x ∷ xs) zero p e = let same : x ≡ p = cc in ap (λ y. f y ∷ map f xs) (sym same)
one_mapped f (x ∷ xs) (suc n) p e = ap (λ rest. x ∷ rest) (one_mapped f xs n p e)

none_mapped : (f : Pred → Pred) (ps : List Pred) (n : ℕ) → slice_get ps n ≡ None → mapped_from f ps (suc n) ≡ mapped_from f ps n
none_mapped f [] zero e = refl
none_mapped f [] (suc n) e = refl
none_mapped f (x ∷ xs) zero e = cc
none_mapped f (x ∷ xs) (suc n) e = ap (λ rest. x ∷ rest) (none_mapped f xs n e)

at_option : (selects : List SelectEntry) (q : Query) (n : ℕ) (o : Option Pred) → slice_get q.preds n ≡ o
    → weighed_from selects (option_map_or (λ p. record q { preds = slice_set q.preds n (weighed_pred selects q p) }) o q) (suc n) ≡ weighed_from selects q n
unfolding weighed_from
at_option selects q n None e = ap (λ ps. record q { preds = ps }) (none_mapped (weighed_pred selects q) q.preds n e)
at_option selects q n (Some p) e = ap (λ ps. record q { preds = ps }) (one_mapped (weighed_pred selects q) q.preds n p e)

pub weighed_more : (selects : List SelectEntry) (q : Query) (n : ℕ) → weighed_from selects (weighed_at selects q n) (n + 1) ≡ weighed_from selects q n
weighed_more selects q n = rw add-one (at_option selects q n (slice_get q.preds n) refl)

as_long : (selects : List SelectEntry) (q : Query) (n : ℕ) (o : Option Pred)
    → length (option_map_or (λ p. record q { preds = slice_set q.preds n (weighed_pred selects q p) }) o q).preds ≡ length q.preds
as_long selects q n None = refl
as_long selects q n (Some p) = length-set q.preds n (weighed_pred selects q p)

pub weighed_length : (selects : List SelectEntry) (q : Query) (n : ℕ) → length (weighed_at selects q n).preds ≡ length q.preds
weighed_length selects q n = as_long selects q n (slice_get q.preds n)

pub ruleset weighing_rules = (weighed_first, weighed_last, weighed_more, weighed_length)
