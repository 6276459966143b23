-- The predicates of the empty set.
use Rattle.std.proofs.Common.{◌≡◌, ℕ, ◌+◌, List, [], ◌∷◌, refl, ap, ◌∙◌, subst, sym, if◌then◌else◌}
use Rattle.star_model.proofs.Laws.{has-zero}
use Rattle.star_model.specs.Predicates.{those_in}
use Rattle.star_model.specs.declared.query.Pred.{Pred}

none_of : (n : ℕ) (ps : List Pred) → those_in 0 n ps ≡ []
none_of n [] = refl
none_of n (p ∷ ps) = ap (λ t. if t then p ∷ those_in 0 (n + 1) ps else those_in 0 (n + 1) ps) (has-zero n) ∙ none_of (n + 1) ps

pub none_in : (s n : ℕ) (ps : List Pred) → s ≡ 0 → those_in s n ps ≡ []
none_in s n ps h = subst (λ t. those_in t n ps ≡ []) (sym h) (none_of n ps)
