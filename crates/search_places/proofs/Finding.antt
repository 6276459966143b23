-- Items of lists, by their places and by tests.
use Prim.Native.Nat.{zero, suc}
use Rattle.std.proofs.Common.{◌≡◌, ℕ, Bool, true, false, List, [], ◌∷◌, Some, refl, subst, arith, if◌then◌else◌}
use Rattle.std.specs.Prelude.{Contains, slice_get}
use Rattle.std.specs.List.{find}
use Rattle.std.proofs.lemmas.Option.{slice_get_within, get_or_from_slice_get}
use Rattle.star_model.specs.Every.{Every}

pub contains_at : {A : Type 0} (xs : List A) (i : ℕ) (x : A) → slice_get xs i ≡ Some x → Contains xs x
contains_at xs i x at = (i, slice_get_within xs i x at, get_or_from_slice_get xs i x x at)

-- what is found is in the list, and passes
pub found_in : {A : Type 0} (test : A → Bool) (xs : List A) (x : A) → find test xs ≡ Some x → Contains xs x × (test x ≡ true)
found_in test [] x h = cc
found_in {A} test (y ∷ ys) x h = pick (test y) refl (λ k. found_in test ys x k) h
  where
    pick : (b : Bool) → test y ≡ b → (find test ys ≡ Some x → Contains ys x × (test x ≡ true)) → (if b then Some y else find test ys) ≡ Some x → Contains (y ∷ ys) x × (test x ≡ true)
    pick true is later h = let e : y ≡ x = cc in ((0, omega arith, e), (let P : A → Type 0 = λ z. test z ≡ true in subst P e is))
    pick false is later h = let k = later h in ((suc k.0.0, (let below = k.0.1 in omega (arith, below)), k.0.2), k.1)

-- what holds of every item holds of each
pub each_of : {A : Type 0} (P : A → Type 0) (xs : List A) (i : ℕ) (x : A) → Every P xs → slice_get xs i ≡ Some x → P x
each_of P [] i x all at = cc
each_of P (y ∷ ys) zero x all at = let e : y ≡ x = cc in subst P e all.0
each_of P (y ∷ ys) (suc i) x all at = each_of P ys i x all.1 at

pub each_in : {A : Type 0} (P : A → Type 0) (xs : List A) (x : A) → Every P xs → Contains xs x → P x
each_in P [] x all (k, below, at) = let no : ⊥ = omega (arith, below) in absurd no
each_in P (y ∷ ys) x all (zero, below, at) = subst P at all.0
each_in P (y ∷ ys) x all (suc k, below, at) = each_in P ys x all.1 (k, omega (arith, below), at)
