-- Lists without repeats, and what they contain.
use Rattle.std.proofs.Common.{◌≡◌, zero, suc, ◌⊎◌, inl, inr, List, [], ◌∷◌, ◌++◌, map, refl, ap, sym, subst, ◌∙◌, arith}
use Rattle.std.specs.Prelude.{Contains, AllPairs, flat_map}
use Rattle.std.proofs.lemmas.List.Elements.{Contains-append_left, Contains-append_right, Contains-append_cases}
use Rattle.workload_runs.specs.Counts.{EachOnce}

pub nothing_in : {A : Type 0} (x : A) → Contains [] x → ⊥
nothing_in x h = omega (arith, h.1)

pub here : {A : Type 0} (x : A) (xs : List A) → Contains (x ∷ xs) x
here x xs = (0, omega arith, refl)

pub further : {A : Type 0} (x y : A) (xs : List A) → Contains xs y → Contains (x ∷ xs) y
further x y xs (k, lt, is) = (suc k, omega (arith, lt), is)

pub head_or_further : {A : Type 0} (x y : A) (xs : List A) → Contains (x ∷ xs) y → (x ≡ y) ⊎ Contains xs y
head_or_further x y xs (zero, lt, is) = inl is
head_or_further x y xs (suc k, lt, is) = inr (k, omega (arith, lt), is)

pub in_map : {A B : Type 0} (f : A → B) (xs : List A) (x : A) → Contains xs x → Contains (map f xs) (f x)
in_map f [] x h = absurd (nothing_in x h)
in_map f (y ∷ xs) x h = elim (head_or_further y x xs h) [
  | inl is ↦ (0, omega arith, ap f is)
  | inr later ↦ further (f y) (f x) (map f xs) (in_map f xs x later)
]

pub from_map : {A B : Type 0} (f : A → B) (xs : List A) (y : B) → Contains (map f xs) y → (x : A) × Contains xs x × (f x ≡ y)
from_map f [] y h = absurd (nothing_in y h)
from_map f (x ∷ xs) y h = elim (head_or_further (f x) y (map f xs) h) [
  | inl is ↦ (x, here x xs, is)
  | inr later ↦ (let found = from_map f xs y later in (found.0, further x found.0 xs found.1, found.2))
]

pub in_flat_map : {A B : Type 0} (f : A → List B) (xs : List A) (x : A) (y : B) → Contains xs x → Contains (f x) y → Contains (flat_map f xs) y
in_flat_map f [] x y h k = absurd (nothing_in x h)
in_flat_map f (z ∷ xs) x y h k = elim (head_or_further z x xs h) [
  | inl is ↦ Contains-append_left (f z) (flat_map f xs) y (subst (λ u. Contains (f u) y) (sym is) k)
  | inr later ↦ Contains-append_right (f z) (flat_map f xs) y (in_flat_map f xs x y later k)
]

pub from_flat_map : {A B : Type 0} (f : A → List B) (xs : List A) (y : B) → Contains (flat_map f xs) y → (x : A) × Contains xs x × Contains (f x) y
from_flat_map f [] y h = absurd (nothing_in y h)
from_flat_map f (x ∷ xs) y h = elim (Contains-append_cases (f x) (flat_map f xs) y h) [
  | inl own ↦ (x, here x xs, own)
  | inr later ↦ (let found = from_flat_map f xs y later in (found.0, further x found.0 xs found.1, found.2))
]

-- ---- no repeats

pub once_both : {A : Type 0} (xs ys : List A) → EachOnce xs → EachOnce ys → ((x : A) → Contains xs x → Contains ys x → ⊥) → EachOnce (xs ++ ys)
once_both [] ys h k apart = k
once_both (x ∷ xs) ys h k apart = (
  (λ again. elim (Contains-append_cases xs ys x again) [ inl own ↦ h.0 own | inr other ↦ apart x (here x xs) other ]),
  once_both xs ys h.1 k (λ y own other. apart y (further x y xs own) other),
)

-- images that differ
pub once_mapped : {A B : Type 0} (f : A → B) (xs : List A) → AllPairs (λ x y. f x ≡ f y → ⊥) xs → EachOnce (map f xs)
once_mapped f [] apart = tt
once_mapped f (x ∷ xs) apart = (again, once_mapped f xs (λ i j d less in_. apart (suc i) (suc j) d (omega (arith, less)) (omega (arith, in_)))) where
  again : Contains (map f xs) (f x) → ⊥
  again h =
      let (y, (k, lt, is), same) = from_map f xs (f x) h in
      apart 0 (suc k) y (omega arith) (omega (arith, lt)) (sym (ap f is ∙ same))

pub once_of_images : {A B : Type 0} (f : A → B) (xs : List A) → EachOnce (map f xs) → EachOnce xs
once_of_images f [] once = tt
once_of_images f (x ∷ xs) once = ((λ h. once.0 (in_map f xs x h)), once_of_images f xs once.1)
