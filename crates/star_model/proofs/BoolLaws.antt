-- Tests that are joined.
use Rattle.std.proofs.Common.{◌≡◌, Bool, true, false, not, ◌&&◌, refl, ap, ◌∙◌, if◌then◌else◌}
use Rattle.std.specs.Prelude.{Option, Some, None}

-- both sides of a true `&&`
pub both : (a b : Bool) → (a && b) ≡ true → (a ≡ true) × (b ≡ true)
both true b h = (refl, h)
both false b h = cc

pub and : (a b : Bool) → a ≡ true → b ≡ true → (a && b) ≡ true
and a b p q = ap (λ x. x && b) p ∙ q

pub not_true : (b : Bool) → not b ≡ true → b ≡ false
not_true true h = cc
not_true false h = refl

-- of two tests that don't both hold it makes no difference which is asked first
pub either_first : {A : Type 0} (c d : Bool) (x y z : A) → (c ≡ true → d ≡ true → ⊥) → (if c then x else if d then y else z) ≡ (if d then y else if c then x else z)
either_first true true x y z no_ = absurd (no_ refl refl)
either_first true false x y z no_ = refl
either_first false d x y z no_ = refl

pub not_here : {A : Type 0} (c : Bool) (x : A) (o : Option A) → (if c then Some x else o) ≡ None → (c ≡ false) × (o ≡ None)
not_here true x o h = cc
not_here false x o h = (refl, h)
