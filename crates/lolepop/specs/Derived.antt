-- Derived plans: a plan with its vectors, and its derivation. What a node of a derivation makes of those below it.
use Rattle.std.specs.Prelude.{◌≡◌, ℕ, Bool, true, List, [], ◌∷◌, Option, Some, Contains, option_and_then}
use Rattle.std.specs.Option.{option_map}
use Rattle.star_model.specs.Operators.{step, flavour_of}
use Rattle.star_model.specs.Plans.{op_of, is_chain}
use Rattle.star_model.specs.Requirements.{satisfies}
use Rattle.star_model.specs.Vectors.{is_better}
use Rattle.star_model.specs.DerivCases as deriv
use Rattle.star_model.specs.declared.derivations.Deriv.TheVariants as made
use Rattle.star_model.specs.declared.query.Query.{Query}
use Rattle.star_model.specs.declared.costs.CostEntry.{CostEntry}
use Rattle.star_model.specs.declared.derivations.Deriv.{Deriv}
use Rattle.star_model.specs.declared.plans.GlueOp.{GlueOp}
use Rattle.star_model.specs.declared.plans.Goal.{Goal}
use Rattle.star_model.specs.declared.plans.Op.{Op}
use Rattle.star_model.specs.declared.plans.Props.{Props}
use Rattle.star_model.specs.declared.plans.Require.{Require}
use Rattle.star_model.specs.declared.rules.Flavour.{Flavour}
use Rattle.lolepop.specs.PlanTrees.{PlanTree, Leaf, Unary, Binary, top_vector, Fits}

-- the plan and the derivation, of which nothing here says that they belong together
pub record DerivedPlan : Type 0 where
  pub tree : PlanTree
  pub deriv : Deriv

abbrev pub vector_of : DerivedPlan → Props
vector_of e = top_vector e.tree

-- whether the first may stand in place of the second
abbrev pub is_better_plan : DerivedPlan → DerivedPlan → Bool
is_better_plan e f = is_better (vector_of e) (vector_of f)

-- ---- operators with a vector

-- the operator gives the vector over inputs with these vectors
pub record GivesVector (o : Op) (inputs : List Props) (v : Props) : Type 0 where
  pub query : Query
  pub costs : List CostEntry
  pub given : step query costs o inputs ≡ Some v

abbrev pub leaf_plan : Op → Props → DerivedPlan
leaf_plan o v = record { tree = Leaf o v; deriv = made.Leaf (flavour_of o) }

abbrev pub unary_plan : Op → Props → DerivedPlan → DerivedPlan
unary_plan o v e = record { tree = Unary o v e.tree; deriv = deriv.Unary (flavour_of o) e.deriv }

abbrev pub binary_plan : Op → Props → DerivedPlan → DerivedPlan → DerivedPlan
binary_plan o v d e = record { tree = Binary o v d.tree e.tree; deriv = deriv.Binary (flavour_of o) d.deriv e.deriv }

-- an operator of a chain of Glue: the derivation has one node for the whole chain
abbrev pub enforced_plan : Op → Props → DerivedPlan → DerivedPlan
enforced_plan o v e = record e { tree = Unary o v e.tree }

-- ---- operators: none where they aren't applicable

abbrev pub derived_leaf : Query → List CostEntry → Flavour → Op → Option DerivedPlan
derived_leaf q costs f o = option_map (λ v. record { tree = Leaf o v; deriv = made.Leaf f }) (step q costs o [])

abbrev pub derived_unary : Query → List CostEntry → Flavour → Op → DerivedPlan → Option DerivedPlan
derived_unary q costs f o e = option_map (λ v. record { tree = Unary o v e.tree; deriv = deriv.Unary f e.deriv }) (step q costs o (vector_of e ∷ []))

abbrev pub derived_binary : Query → List CostEntry → Flavour → Op → DerivedPlan → DerivedPlan → Option DerivedPlan
derived_binary q costs f o d e =
    option_map (λ v. record { tree = Binary o v d.tree e.tree; deriv = deriv.Binary f d.deriv e.deriv }) (step q costs o (vector_of d ∷ vector_of e ∷ []))

-- the operator of a word of a chain of Glue
abbrev pub enforced : Query → List CostEntry → Require → GlueOp → DerivedPlan → Option DerivedPlan
enforced q costs r word e = option_map (λ v. enforced_plan (op_of r word) v e) (step q costs (op_of r word) (vector_of e ∷ []))

-- the chain over a derived plan, the first operator next to it; none where an operator isn't applicable
abbrev pub chained : Query → List CostEntry → Require → List GlueOp → DerivedPlan → Option DerivedPlan
chained q costs r [] e = Some e
chained q costs r (word ∷ words) e = option_and_then (chained q costs r words) (enforced q costs r word e)

-- ---- nodes with the plan of the one below

abbrev pub under_glue : List GlueOp → DerivedPlan → DerivedPlan
under_glue chain e = record e { deriv = deriv.Glue chain e.deriv }

abbrev pub under_goal : Goal → Option (ℕ × ℕ) → DerivedPlan → DerivedPlan
under_goal goal split e = record e { deriv = deriv.Goal goal split e.deriv }

abbrev pub under_reference : List ℕ → ℕ → List ℕ → DerivedPlan → DerivedPlan
under_reference star alternative values e = record e { deriv = deriv.Reference star alternative values e.deriv }

-- ---- of sets of derived plans

-- Glue makes the second of the first, by a chain of the requirement
abbrev pub GluesTo : Query → List CostEntry → Require → DerivedPlan → DerivedPlan → Type 0
GluesTo q costs r e x =
    (chain : List GlueOp) × (made : DerivedPlan) × (is_chain r chain ≡ true) × (chained q costs r chain e ≡ Some made) × (satisfies q (vector_of made) r ≡ true) × (x ≡ under_glue chain made)

-- the vectors in each tree are those of its plans
abbrev pub AllFit : Query → List CostEntry → List DerivedPlan → Type 0
AllFit q costs plans = (e : DerivedPlan) → Contains plans e → Fits q costs e.tree
