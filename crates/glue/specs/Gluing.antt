-- What one chain of Glue makes of a plan.
use Rattle.std.specs.Prelude.{◌≡◌, Bool, true, false, not, ◌&&◌, List, Some}
use Rattle.std.specs.List.{list_any}
use Rattle.std.specs.Option.{option_map_or}
use Rattle.star_model.specs.Plans.{is_chain, chain_vector}
use Rattle.star_model.specs.Requirements.{satisfies}
use Rattle.star_model.specs.Vectors.{is_better}
use Rattle.star_model.specs.declared.query.Query.{Query}
use Rattle.star_model.specs.declared.costs.CostEntry.{CostEntry}
use Rattle.star_model.specs.declared.plans.GlueOp.{GlueOp}
use Rattle.star_model.specs.declared.plans.Props.{Props}
use Rattle.star_model.specs.declared.plans.Require.{Require}
use Rattle.dominance_prune.specs.Gathering.{From}
use Rattle.lolepop.specs.Derived.{DerivedPlan, vector_of, chained, under_glue}

-- the chain makes the second of the first, and its vector satisfies the requirement
abbrev pub ChainsTo : Query → List CostEntry → Require → List GlueOp → DerivedPlan → DerivedPlan → Type 0
ChainsTo q costs r chain e x = (made : DerivedPlan) × (chained q costs r chain e ≡ Some made) × (satisfies q (vector_of made) r ≡ true) × (x ≡ under_glue chain made)

-- the chain, if it is one of the requirement, makes it of a plan of the set
abbrev pub ChainsOver : Query → List CostEntry → Require → List DerivedPlan → List GlueOp → DerivedPlan → Type 0
ChainsOver q costs r plans chain x = (is_chain r chain ≡ true) × From plans (ChainsTo q costs r chain) x

-- whether the vector satisfies the requirement and no plan is as good
abbrev pub is_new : Query → Require → List DerivedPlan → Props → Bool
is_new q r plans v = satisfies q v r && not (list_any (λ m. is_better (vector_of m) v) plans)

-- the same of the vector of the chain over this vector, if it is applicable
abbrev pub is_wanted : Query → List CostEntry → Require → List GlueOp → Props → List DerivedPlan → Bool
is_wanted q costs r chain v plans = option_map_or (is_new q r plans) (chain_vector q costs r chain v) false
