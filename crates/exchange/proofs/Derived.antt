-- Derived plans of a place: each derivation that has a vector there has one plan, and only one.
use Rattle.std.proofs.Common.{◌≡◌, ℕ, Some, ap, sym, ◌∙◌}
use Rattle.std.specs.Prelude.{option_and_then}
use Rattle.star_model.specs.Costs.{costs_of}
use Rattle.star_model.specs.Exchange.{HasCard}
use Rattle.star_model.specs.Expected.{Expected}
use Rattle.star_model.specs.Derivations.{plan_of, HasVector}
use Rattle.star_model.specs.Judging.{Vector, judge}
use Rattle.star_model.specs.Plans.{vector}
use Rattle.star_model.specs.declared.query.Query.{Query}
use Rattle.star_model.specs.declared.plans.Props.{Props}
use Rattle.star_model.specs.declared.rules.RuleFile.{RuleFile}
use Rattle.star_model.specs.declared.derivations.Deriv.{Deriv}
use Rattle.star_model.proofs.Laws.{judges_vector, judges_plan}
use Rattle.lolepop.specs.PlanTrees.{PlanTree, plan_under, top_vector, Fits}
use Rattle.lolepop.specs.Derived.{DerivedPlan, vector_of}
use Rattle.lolepop.proofs.Laws.{fits_vector, tree_exists, one_tree, tree_card}
use Rattle.exchange.specs.Places.{IsDerived}
use Rattle.exchange.proofs.Reading.{some_is}

module _ (q : Query) (rules : RuleFile) where
  pub has_vector : (x : Expected) (e : DerivedPlan) → IsDerived q rules x e → HasVector q rules e.deriv x (vector_of e)
  has_vector x e h = record { valid = h.valid; of_plan = ap (option_and_then (vector q (costs_of rules))) h.plan ∙ fits_vector q (costs_of rules) e.tree h.fits }

  pub judge_derived : (x : Expected) (e : DerivedPlan) (n : ℕ) → IsDerived q rules x e → judge q rules e.deriv x n ≡ Vector (vector_of e)
  judge_derived x e n h = (judges_vector q rules e.deriv x n (vector_of e)).1 (has_vector x e h)

  pub has_card : (x : Expected) (e : DerivedPlan) → IsDerived q rules x e → HasCard q (vector_of e)
  has_card x e h = tree_card q (costs_of rules) e.tree h.fits

  -- what the walk finds, with the plan, is derived there
  pub derived_from : (x : Expected) (t : PlanTree) (d : Deriv) (n : ℕ) → judge q rules d x n ≡ Vector (top_vector t) → plan_of q rules d x ≡ Some (plan_under t) → Fits q (costs_of rules) t
      → IsDerived q rules x (record { tree = t; deriv = d })
  derived_from x t d n j p f = record { valid = ((judges_vector q rules d x n (top_vector t)).0 j).valid; plan = p; fits = f }

  -- a derivation with a vector has a plan with vectors
  pub tree_derived : (d : Deriv) (x : Expected) (n : ℕ) (v : Props) → judge q rules d x n ≡ Vector v
      → (t : PlanTree) × IsDerived q rules x (record { tree = t; deriv = d }) × (top_vector t ≡ v)
  tree_derived d x n v h =
      let p = judges_plan q rules d x n v h in
      let t = tree_exists q (costs_of rules) p.0 v p.2 in
      (t.0, derived_from x t.0 d n (h ∙ ap Vector (sym t.3)) (p.1 ∙ ap Some (sym t.2)) t.1, t.3)

  -- and only one
  pub same_plan : (x : Expected) (e f : DerivedPlan) → IsDerived q rules x e → IsDerived q rules x f → e.deriv ≡ f.deriv → e ≡ f
  same_plan x e f h k same =
      let plans : plan_under e.tree ≡ plan_under f.tree = some_is _ _ (sym h.plan ∙ ap (λ d. plan_of q rules d x) same ∙ k.plan) in
      let trees : e.tree ≡ f.tree = one_tree q (costs_of rules) e.tree f.tree h.fits k.fits plans in
      (λ i. record { tree = trees i; deriv = same i })
