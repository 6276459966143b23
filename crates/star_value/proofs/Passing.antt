-- Numbers that pass a test, from one on.
use Rattle.std.proofs.Common.{◌≡◌, ℕ, ◌+◌, ◌-◌, ◌<◌, ◌≤◌, Bool, true, false, [], ◌∷◌, zero, suc, filter, refl, ap, ◌∙◌, arith, if◌then◌else◌}
use Rattle.std.specs.List.{range_with_len}
use Rattle.star_model.specs.Sets.{has, members, places}
use Rattle.star_value.specs.RangeNumbers.{passing}

pub passing_none : (test : ℕ → Bool) (k end : ℕ) → end ≤ k → passing test k end ≡ []
unfolding passing
passing_none test k end h = let e : end - k ≡ zero = omega (arith, h) in ap (λ n. filter test (range_with_len k n)) e

range_step : (k end : ℕ) → k < end → range_with_len k (end - k) ≡ k ∷ range_with_len (k + 1) (end - (k + 1))
range_step k end h = let e : end - k ≡ suc (end - (k + 1)) = omega (arith, h) in ap (range_with_len k) e

passing_step : (test : ℕ → Bool) (k end : ℕ) → k < end → passing test k end ≡ (if test k then k ∷ passing test (k + 1) end else passing test (k + 1) end)
unfolding passing
passing_step test k end h = ap (filter test) (range_step k end h)

pub passing_more : (test : ℕ → Bool) (k end : ℕ) → k < end → test k ≡ true → passing test k end ≡ k ∷ passing test (k + 1) end
passing_more test k end h t = passing_step test k end h ∙ (λ i. if t i then k ∷ passing test (k + 1) end else passing test (k + 1) end)

pub passing_same : (test : ℕ → Bool) (k end : ℕ) → k < end → test k ≡ false → passing test k end ≡ passing test (k + 1) end
passing_same test k end h t = passing_step test k end h ∙ (λ i. if t i then k ∷ passing test (k + 1) end else passing test (k + 1) end)

pub members_passing : (s : ℕ) → passing (has s) 0 32 ≡ members s
unfolding passing members places
members_passing s = refl

pub ruleset passing_rules = (passing_none, passing_same)
