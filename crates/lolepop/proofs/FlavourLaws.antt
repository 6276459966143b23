-- An operator of values has the flavour that it is made for.
use Rattle.std.proofs.Common.{◌≡◌, refl, List}
use Rattle.star_model.specs.Expected.{operator_of}
use Rattle.star_model.specs.Operators.{flavour_of}
use Rattle.star_model.specs.declared.rules.Flavour.{Flavour}
use Rattle.star_model.specs.declared.rules.Flavour.TheVariants as flavour
use Rattle.star_model.specs.declared.values.RuleValue.{RuleValue}

pub operator_flavour : (f : Flavour) (vs : List RuleValue) → flavour_of (operator_of f vs) ≡ f
operator_flavour flavour.AccessHeap vs = refl
operator_flavour flavour.AccessIndex vs = refl
operator_flavour flavour.Get vs = refl
operator_flavour flavour.Filter vs = refl
operator_flavour flavour.Sort vs = refl
operator_flavour flavour.Store vs = refl
operator_flavour flavour.Ship vs = refl
operator_flavour flavour.Probe vs = refl
operator_flavour flavour.JoinNl vs = refl
operator_flavour flavour.JoinMerge vs = refl
operator_flavour flavour.JoinHash vs = refl
operator_flavour flavour.Intersect vs = refl
