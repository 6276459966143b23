-- Numbers, and the members of a set, from a number on.
use Rattle.std.proofs.Common.{◌≡◌, ℕ, ◌+◌, ◌-◌, ◌<◌, ◌≤◌, true, false, List, [], ◌∷◌, zero, suc, filter, refl, ap, ◌∙◌, arith, if◌then◌else◌}
use Rattle.std.specs.List.{range_with_len}
use Rattle.star_model.specs.Sets.{has, members, places}

pub range_step : (n k : ℕ) → k < n → range_with_len k (n - k) ≡ k ∷ range_with_len (k + 1) (n - (k + 1))
range_step n k h = let e : n - k ≡ suc (n - (k + 1)) = omega (arith, h) in ap (range_with_len k) e

unfoldable pub members_from : ℕ → ℕ → List ℕ
members_from s k = filter (has s) (range_with_len k (32 - k))

pub members_first : (s : ℕ) → members_from s 0 ≡ members s
unfolding members members_from places
members_first s = refl

pub members_none : (s k : ℕ) → 32 ≤ k → members_from s k ≡ []
unfolding members_from
members_none s k h = let e : 32 - k ≡ zero = omega (arith, h) in ap (λ n. filter (has s) (range_with_len k n)) e

members_step : (s k : ℕ) → k < 32 → members_from s k ≡ (if has s k then k ∷ members_from s (k + 1) else members_from s (k + 1))
unfolding members_from
members_step s k h = ap (filter (has s)) (range_step 32 k h)

pub members_has : (s k : ℕ) → k < 32 → has s k ≡ true → members_from s k ≡ k ∷ members_from s (k + 1)
members_has s k h t = members_step s k h ∙ (λ i. if t i then k ∷ members_from s (k + 1) else members_from s (k + 1))

pub members_lacks : (s k : ℕ) → k < 32 → has s k ≡ false → members_from s k ≡ members_from s (k + 1)
members_lacks s k h t = members_step s k h ∙ (λ i. if t i then k ∷ members_from s (k + 1) else members_from s (k + 1))

pub ruleset member_rules = (members_first, members_none, members_has, members_lacks)
