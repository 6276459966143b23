-- Members of lists that are made from others.
use Rattle.std.proofs.Common.{◌≡◌, zero, suc, List, [], ◌∷◌, Bool, true, false, cond, arith, inl, inr, ◌⊎◌, refl, sym, subst}
use Rattle.std.specs.List.{filter, Contains}
use Rattle.std.proofs.lemmas.List.Elements.{All-contains, All-contains_itself, All-filter}

pub Contains-filter_cases : {X : Type 0} (p : X → Bool) (xs : List X) (x : X) → Contains (filter p xs) x → Contains xs x
Contains-filter_cases p xs x h = All-contains (Contains xs) (filter p xs) x (All-filter p (Contains xs) xs (All-contains_itself xs)) h

pub Contains-cons_cases : {X : Type 0} (y : X) (ys : List X) (x : X) → Contains (y ∷ ys) x → (y ≡ x) ⊎ Contains ys x
Contains-cons_cases y ys x (zero, below, at) = inl at
Contains-cons_cases y ys x (suc k, below, at) = inr (k, omega arith, at)

pub Contains-head : {X : Type 0} (y : X) (ys : List X) → Contains (y ∷ ys) y
Contains-head y ys = (0, omega arith, refl)

pub Contains-tail : {X : Type 0} (y : X) (ys : List X) (x : X) → Contains ys x → Contains (y ∷ ys) x
Contains-tail y ys x (k, below, at) = (suc k, omega arith, at)

-- what a filter leaves out fails the test
pub Contains-filter : {X : Type 0} (p : X → Bool) (xs : List X) (x : X) → Contains xs x → p x ≡ true → Contains (filter p xs) x
Contains-filter p [] x h passes = absurd (omega (arith, h.1))
Contains-filter {X} p (y ∷ ys) x h passes = elim (Contains-cons_cases y ys x h) [
  | inl same ↦ here (p y) (filter p ys) (let P : X → Type 0 = λ u. p u ≡ true in subst P (sym same) passes) same
  | inr later ↦ there (p y) (filter p ys) (Contains-filter p ys x later passes)
]
  where
    here : (b : Bool) (zs : List X) → b ≡ true → y ≡ x → Contains (cond b (y ∷ zs) zs) x
    here true zs e same = let P : X → Type 0 = λ u. Contains (y ∷ zs) u in subst P same (Contains-head y zs)
    here false zs e same = absurd (cc)

    there : (b : Bool) (zs : List X) → Contains zs x → Contains (cond b (y ∷ zs) zs) x
    there true zs k = Contains-tail y zs x k
    there false zs k = k
