-- Symbols of one byte.
use Rattle.std.proofs.Common.{◌≡◌, ℕ, ◌≤◌, Bool, true, false, ◌&&◌, ◌||◌, nat_eq, List, [], ◌∷◌, length, refl, ap, ◌∙◌, arith}
use Rattle.std.specs.List.{list_any}
use Rattle.spelling.specs.Layout.{is_one_of}

and_true : (b : Bool) → (b && true) ≡ b
and_true true = refl
and_true false = refl

and_false : (b c : Bool) → c ≡ false → ((b && false) || c) ≡ false
and_false true c e = e
and_false false c e = e

-- a symbol of no byte, or of several, is none of these
pub one_of-empty : (signs bytes : List ℕ) → length bytes ≤ 0 → is_one_of signs bytes ≡ false
one_of-empty [] bytes h = refl
one_of-empty (s ∷ signs) [] h = one_of-empty signs [] h
one_of-empty (s ∷ signs) (b ∷ bytes) h = absurd (omega arith)

pub one_of-longer : (signs bytes : List ℕ) → 2 ≤ length bytes → is_one_of signs bytes ≡ false
one_of-longer [] bytes h = refl
one_of-longer (s ∷ signs) [] h = absurd (omega arith)
one_of-longer (s ∷ signs) (b ∷ []) h = absurd (omega arith)
one_of-longer (s ∷ signs) (b ∷ c ∷ bytes) h = and_false (nat_eq s b) _ (one_of-longer signs (b ∷ c ∷ bytes) h)

pub one_of-one : (signs : List ℕ) (b : ℕ) → is_one_of signs (b ∷ []) ≡ list_any (λ s. nat_eq s b) signs
one_of-one [] b = refl
one_of-one (s ∷ signs) b = ap (λ c. c || is_one_of signs (b ∷ [])) (and_true (nat_eq s b)) ∙ ap (λ c. nat_eq s b || c) (one_of-one signs b)

pub ruleset signs = (one_of-empty, one_of-longer, one_of-one)
