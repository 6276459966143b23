-- What the walk over a derivation finds is read back: the parts of a node that has a vector.
use Rattle.std.proofs.Common.{◌≡◌, ℕ, Bool, true, false, Option, Some, None, refl, if◌then◌else◌}
use Rattle.std.specs.Prelude.{option_and_then}
use Rattle.star_model.specs.Judging.{Judgement, Vector, FirstInvalid, vector_or, if_valid, only_if, fitting}
use Rattle.star_model.specs.declared.plans.Props.{Props}

pub fits : {A : Type 0} (n : ℕ) (o : Option A) (f : A → Judgement) (v : Props) → fitting n o f ≡ Vector v → (a : A) × (o ≡ Some a) × (f a ≡ Vector v)
fits n None f v h = cc
fits n (Some a) f v h = (a, refl, h)

pub valid : (w : Judgement) (f : Props → Judgement) (v : Props) → if_valid w f ≡ Vector v → (u : Props) × (w ≡ Vector u) × (f u ≡ Vector v)
valid (Vector u) f v h = (u, refl, h)
valid (FirstInvalid n) f v h = cc

pub has : (n : ℕ) (o : Option Props) (v : Props) → vector_or n o ≡ Vector v → o ≡ Some v
has n None v h = cc
has n (Some u) v h = cc

pub bind : {A B : Type 0} (f : A → Option B) (o : Option A) (b : B) → option_and_then f o ≡ Some b → (a : A) × (o ≡ Some a) × (f a ≡ Some b)
bind f None b h = cc
bind f (Some a) b h = (a, refl, h)

pub some_is : {A : Type 0} (a b : A) → Some a ≡ Some b → a ≡ b
some_is a b h = cc

pub chosen : {A : Type 0} (b : Bool) (x y : A) → (if b then Some x else None) ≡ Some y → (b ≡ true) × (x ≡ y)
chosen true x y h = (refl, cc)
chosen false x y h = cc

pub chosen_of : {A : Type 0} (b : Bool) (o : Option A) (y : A) → (if b then o else None) ≡ Some y → (b ≡ true) × (o ≡ Some y)
chosen_of true o y h = (refl, h)
chosen_of false o y h = cc

pub passes_test : (test : Props → Bool) (v w : Props) → only_if test v ≡ Some w → (test v ≡ true) × (v ≡ w)
passes_test test v w h = chosen (test v) v w h

-- no judgement of a node that doesn't fit
pub unfit : (n : ℕ) (v : Props) → FirstInvalid n ≡ Vector v → ⊥
unfit n v h = cc
