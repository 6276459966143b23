-- How many inputs operators have: none has three, and all but the accesses have some.
use Rattle.std.proofs.Common.{◌≡◌, ◌<◌, ◌≤◌, Bool, true, false, refl, List, [], ◌∷◌, length, None, arith}
use Rattle.star_model.specs.Operators.{may_apply, step}
use Rattle.star_model.specs.declared.query.Query.{Query}
use Rattle.star_model.specs.declared.costs.CostEntry.{CostEntry}
use Rattle.star_model.specs.declared.plans.Op.{Op}
use Rattle.star_model.specs.declared.plans.Op.TheVariants as op
use Rattle.star_model.specs.declared.plans.Props.{Props}

step-three : (q : Query) (costs : List CostEntry) (o : Op) (u v w : Props) (more : List Props) → step q costs o (u ∷ v ∷ w ∷ more) ≡ None
unfolding step
step-three q costs (op.AccessHeap s p) u v w more = refl
step-three q costs (op.AccessIndex s x p) u v w more = refl
step-three q costs (op.Get s p) u v w more = refl
step-three q costs (op.Filter p) u v w more = refl
step-three q costs (op.Sort c) u v w more = refl
step-three q costs (op.Store c) u v w more = refl
step-three q costs (op.Ship s) u v w more = refl
step-three q costs (op.Probe c p) u v w more = refl
step-three q costs (op.JoinNl p) u v w more = refl
step-three q costs (op.JoinMerge m p) u v w more = refl
step-three q costs (op.JoinHash m p) u v w more = refl
step-three q costs op.Intersect u v w more = refl

pub step-many : (q : Query) (costs : List CostEntry) (o : Op) (vs : List Props) → 3 ≤ length vs → step q costs o vs ≡ None
step-many q costs o [] h = absurd (omega arith)
step-many q costs o (u ∷ []) h = absurd (omega arith)
step-many q costs o (u ∷ v ∷ []) h = absurd (omega arith)
step-many q costs o (u ∷ v ∷ w ∷ more) h = step-three q costs o u v w more

pub ruleset arity_rules = (step-many)

abbrev pub is_access : Op → Bool
is_access (op.AccessHeap s p) = true
is_access (op.AccessIndex s x p) = true
is_access _ = false

pub has_input : (q : Query) (o : Op) (ins : List Props) → is_access o ≡ false → may_apply q o ins ≡ true → 0 < length ins
has_input q o (v ∷ ins) a h = omega arith
has_input q (op.AccessHeap s p) [] a h = cc
has_input q (op.AccessIndex s x p) [] a h = cc
has_input q (op.Get s p) [] a h = cc
has_input q (op.Filter p) [] a h = cc
has_input q (op.Sort c) [] a h = cc
has_input q (op.Store c) [] a h = cc
has_input q (op.Ship s) [] a h = cc
has_input q (op.Probe c p) [] a h = cc
has_input q (op.JoinNl p) [] a h = cc
has_input q (op.JoinMerge m p) [] a h = cc
has_input q (op.JoinHash m p) [] a h = cc
has_input q op.Intersect [] a h = cc
