-- The splits that a goal of several quantifiers may have are those of the list.
use Prim.Native.Nat.{zero, suc}
use Rattle.std.proofs.Common.{◌≡◌, ℕ, ◌+◌, ◌<◌, ◌^◌, Bool, true, false, not, ◌&&◌, nat_eq, cond, List, [], ◌∷◌, Some, refl, ap, sym, ◌∙◌, subst, arith}
use Rattle.std.specs.Prelude.{Contains, ◌↔◌}
use Rattle.std.specs.List.{count_by}
use Rattle.std.proofs.lemmas.Bool.{false≢true, and_parts, eqb-true, eq-eqb, ne_eqb}
use Rattle.std.proofs.lemmas.List.Sums.{sum_by-cons}
use Rattle.star_model.specs.Sets.{union, meet, size, splits, is_pair, IsSplit}
use Rattle.star_model.specs.Expected.{may_split}
use Rattle.star_model.proofs.Laws.{split_once, split_only}

not_zero : (n : ℕ) → not (nat_eq n 0) ≡ true → 0 < n
not_zero zero h = absurd (false≢true h)
not_zero (suc n) h = omega arith

from_may : (s a b : ℕ) (several : Bool) → (several && nat_eq (union a b) s && nat_eq (meet a b) 0 && not (nat_eq a 0) && not (nat_eq b 0)) ≡ true → IsSplit s a b
from_may s a b several h =
    let right = and_parts (several && nat_eq (union a b) s && nat_eq (meet a b) 0 && not (nat_eq a 0)) (not (nat_eq b 0)) h in
    let left = and_parts (several && nat_eq (union a b) s && nat_eq (meet a b) 0) (not (nat_eq a 0)) right.0 in
    let apart = and_parts (several && nat_eq (union a b) s) (nat_eq (meet a b) 0) left.0 in
    let whole = and_parts several (nat_eq (union a b) s) apart.0 in
    record { whole = eqb-true (union a b) s whole.1; apart = eqb-true (meet a b) 0 apart.1; left = not_zero a left.1; right = not_zero b right.1 }

abbrev count_if : Bool → ℕ
count_if b = cond b 1 0

counted : (p : ℕ × ℕ → Bool) (xs : List (ℕ × ℕ)) → 0 < count_by p xs → (x : ℕ × ℕ) × Contains xs x × (p x ≡ true)
counted p [] h = let no : ⊥ = omega (arith, h) in absurd no
counted p (x ∷ xs) h = pick (p x) refl (λ k. counted p xs k) (let e = sum_by-cons (λ y. cond (p y) 1 0) x xs in subst (λ (n : ℕ). 0 < n) e h)
  where
    pick : (b : Bool) → p x ≡ b → (0 < count_by p xs → (y : ℕ × ℕ) × Contains xs y × (p y ≡ true)) → 0 < cond (p x) 1 0 + count_by p xs → (y : ℕ × ℕ) × Contains (x ∷ xs) y × (p y ≡ true)
    pick true is later h = (x, (0, omega arith, refl), is)
    pick false is later h =
        let none : zero ≡ cond (p x) 1 0 = sym (ap (λ (b : Bool). count_if b) is) in
        let k = later (omega (arith, h, none)) in (k.0, (suc k.1.0, (let below = k.1.1 in omega (arith, below)), k.1.2), k.2)

there : (p : ℕ × ℕ → Bool) (xs : List (ℕ × ℕ)) (x : ℕ × ℕ) → Contains xs x → p x ≡ true → 0 < count_by p xs
there p [] x (k, below, at) h = let no : ⊥ = omega (arith, below) in absurd no
there p (y ∷ ys) x (zero, below, at) h =
    let e = sum_by-cons (λ y. cond (p y) 1 0) y ys in
    let one : cond (p y) 1 0 ≡ suc zero = ap count_if (ap p at ∙ h) in
    omega (arith, e, one)
there p (y ∷ ys) x (suc k, below, at) h =
    let e = sum_by-cons (λ y. cond (p y) 1 0) y ys in
    let rest = there p ys x (k, (let b = below in omega (arith, b)), at) h in
    omega (arith, e, rest)

-- each split of a goal of several quantifiers is in the list
listed_if_may : (s : ℕ) → s < 2 ^ 32 → (p : ℕ × ℕ) → may_split s (Some p) ≡ true → Contains (splits s) p
listed_if_may s fits (a, b) may =
    let is = from_may s a b (not (nat_eq (size s) 1)) may in
    let one = split_once s a b fits is in
    let k = counted (is_pair a b) (splits s) (let e = one in omega (arith, e)) in
    let parts = and_parts (nat_eq k.0.0 a) (nat_eq k.0.1 b) k.2 in
    let same : k.0 ≡ (a, b) = (λ n. (eqb-true k.0.0 a parts.0 n, eqb-true k.0.1 b parts.1 n)) in
    subst (λ (x : ℕ × ℕ). Contains (splits s) x) same k.1

some_is : (n : ℕ) → 0 < n → not (nat_eq n 0) ≡ true
some_is n h = ap not (ne_eqb n 0 (λ e. let no : ⊥ = omega (arith, h, e) in no))

-- and each in the list is one
may_if_listed : (s : ℕ) → s < 2 ^ 32 → nat_eq (size s) 1 ≡ false → (p : ℕ × ℕ) → Contains (splits s) p → may_split s (Some p) ≡ true
may_if_listed s fits several (a, b) among =
    let both : is_pair a b (a, b) ≡ true = (λ n. eq-eqb a a refl n && eq-eqb b b refl n) in
    let is = split_only s a b fits (there (is_pair a b) (splits s) (a, b) among both) in
    (λ n. not (several n) && eq-eqb (union a b) s is.whole n && eq-eqb (meet a b) 0 is.apart n && some_is a is.left n && some_is b is.right n)

pub split_listed : (s : ℕ) → s < 2 ^ 32 → nat_eq (size s) 1 ≡ false → (p : ℕ × ℕ) → (may_split s (Some p) ≡ true) ↔ Contains (splits s) p
split_listed s fits several p = (listed_if_may s fits p, may_if_listed s fits several p)
