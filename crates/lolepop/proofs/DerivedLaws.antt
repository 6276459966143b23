-- What an operator gives over derived plans, and its vector.
use Rattle.std.proofs.Common.{◌≡◌, refl, sym, ◌∙◌, ap, ◌↔◌, List, [], ◌∷◌, Option, Some, None}
use Rattle.std.specs.Option.{option_map}
use Rattle.star_model.specs.Operators.{step}
use Rattle.star_model.specs.Plans.{op_of}
use Rattle.star_model.specs.DerivCases as deriv
use Rattle.star_model.specs.declared.derivations.Deriv.TheVariants as made
use Rattle.star_model.specs.declared.query.Query.{Query}
use Rattle.star_model.specs.declared.costs.CostEntry.{CostEntry}
use Rattle.star_model.specs.declared.plans.GlueOp.{GlueOp}
use Rattle.star_model.specs.declared.plans.Op.{Op}
use Rattle.star_model.specs.declared.plans.Props.{Props}
use Rattle.star_model.specs.declared.plans.Require.{Require}
use Rattle.star_model.specs.declared.rules.Flavour.{Flavour}
use Rattle.lolepop.specs.PlanTrees.{Leaf, Unary, Binary}
use Rattle.lolepop.specs.Derived.{DerivedPlan, vector_of, derived_leaf, derived_unary, derived_binary, enforced}

-- a function made for each vector, which can be read back
given : (make : Props → DerivedPlan) → ((v : Props) → vector_of (make v) ≡ v) → (x : Option Props) (r : DerivedPlan) → option_map make x ≡ Some r
    → (x ≡ Some (vector_of r)) × (r ≡ make (vector_of r))
given make read None r h = cc
given make read (Some v) r h =
    let same : make v ≡ r = cc in
    let vector : v ≡ vector_of r = sym (read v) ∙ ap vector_of same in
    (ap Some vector, sym same ∙ ap make vector)

gives : (make : Props → DerivedPlan) → ((v : Props) → vector_of (make v) ≡ v) → (x : Option Props) (r : DerivedPlan)
    → (option_map make x ≡ Some r) ↔ ((x ≡ Some (vector_of r)) × (r ≡ make (vector_of r)))
gives make read x r = (given make read x r, λ h. ap (option_map make) h.0 ∙ ap Some (sym h.1))

module _ (q : Query) (costs : List CostEntry) where
  pub leaf_gives : (f : Flavour) (o : Op) (r : DerivedPlan) → (derived_leaf q costs f o ≡ Some r)
      ↔ ((step q costs o [] ≡ Some (vector_of r)) × (r ≡ record { tree = Leaf o (vector_of r); deriv = made.Leaf f }))
  leaf_gives f o r = gives (λ v. record { tree = Leaf o v; deriv = made.Leaf f }) (λ _. refl) (step q costs o []) r

  pub unary_gives : (f : Flavour) (o : Op) (e r : DerivedPlan) → (derived_unary q costs f o e ≡ Some r)
      ↔ ((step q costs o (vector_of e ∷ []) ≡ Some (vector_of r)) × (r ≡ record { tree = Unary o (vector_of r) e.tree; deriv = deriv.Unary f e.deriv }))
  unary_gives f o e r =
      gives (λ v. record { tree = Unary o v e.tree; deriv = deriv.Unary f e.deriv }) (λ _. refl) (step q costs o (vector_of e ∷ [])) r

  pub binary_gives : (f : Flavour) (o : Op) (d e r : DerivedPlan) → (derived_binary q costs f o d e ≡ Some r)
      ↔ ((step q costs o (vector_of d ∷ vector_of e ∷ []) ≡ Some (vector_of r))
      × (r ≡ record { tree = Binary o (vector_of r) d.tree e.tree; deriv = deriv.Binary f d.deriv e.deriv }))
  binary_gives f o d e r =
      gives (λ v. record { tree = Binary o v d.tree e.tree; deriv = deriv.Binary f d.deriv e.deriv }) (λ _. refl) (step q costs o (vector_of d ∷ vector_of e ∷ [])) r

  pub enforced_gives : (r : Require) (word : GlueOp) (e g : DerivedPlan) → (enforced q costs r word e ≡ Some g)
      ↔ ((step q costs (op_of r word) (vector_of e ∷ []) ≡ Some (vector_of g)) × (g ≡ record e { tree = Unary (op_of r word) (vector_of g) e.tree }))
  enforced_gives r word e g =
      gives (λ v. record e { tree = Unary (op_of r word) v e.tree }) (λ _. refl) (step q costs (op_of r word) (vector_of e ∷ [])) g
