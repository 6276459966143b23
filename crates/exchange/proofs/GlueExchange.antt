-- Of a set that has what is best for a goal, the chains of Glue make one that has what is best where Glue for it is expected.
use Rattle.std.proofs.Common.{◌≡◌, true, List, Some, refl, ap, ◌∙◌}
use Rattle.star_model.specs.Costs.{costs_of}
use Rattle.star_model.specs.Exchange.{CostsPass}
use Rattle.star_model.specs.Vectors.{is_better}
use Rattle.star_model.specs.Requirements.{satisfies}
use Rattle.star_model.specs.Expected.{Expected, glue_of}
use Rattle.star_model.specs.declared.plans.Require.{Require}
use Rattle.star_model.specs.declared.query.Query.{Query}
use Rattle.star_model.specs.declared.rules.RuleFile.{RuleFile}
use Rattle.dominance_prune.specs.Gathering.{Gathers, From}
use Rattle.dominance_prune.specs.GatheringCases.{Gathers-represented}
use Rattle.lolepop.specs.Derived.{DerivedPlan, vector_of, is_better_plan, GluesTo, under_glue}
use Rattle.lolepop.proofs.Laws.{chains_exchange, better_satisfies}
use Rattle.exchange.specs.Places.{IsDerived, IsBestOf, GlueWay}
use Rattle.exchange.proofs.Derived.{has_card}
use Rattle.exchange.proofs.OperatorExchange.{better_plan_transitive, best_above, best_derived}
use Rattle.exchange.proofs.GlueWays.{chained_vector, chained_some, glue_derived, glue_way}

module _ (q : Query) (rules : RuleFile) (pass : CostsPass (costs_of rules)) where
  pub glue_exchange : (x y : Expected) (r : Require) → glue_of q x ≡ Some (r, y) → (plans old new : List DerivedPlan) → IsBestOf q rules y plans
      → Gathers is_better_plan old new (From plans (GluesTo q (costs_of rules) r)) → Gathers is_better_plan old new (IsDerived q rules x)
  glue_exchange x y r glues plans old new best g =
      Gathers-represented is_better_plan better_plan_transitive (From plans (GluesTo q (costs_of rules) r)) (IsDerived q rules x) old new
      (λ z made. glue_derived q rules x y r glues z (made.0, best_derived q rules y plans best made.0 made.1, made.2))
      (λ z derived. reach z (glue_way q rules x y r glues z derived))
      g
    where
      reach : (z : DerivedPlan) → GlueWay q rules r y z → (u : DerivedPlan) × From plans (GluesTo q (costs_of rules) r) u × (is_better_plan u z ≡ true)
      reach z (i, derived, (chain, made, one, by, satisfied, is)) =
          let m = best_above q rules y plans best i derived in
          let among = best_derived q rules y plans best m.0 m.1 in
          let v = chains_exchange q (costs_of rules) pass r chain (vector_of m.0) (vector_of i) (m.2, has_card q rules y m.0 among, has_card q rules y i derived) (vector_of made)
          (chained_vector q (costs_of rules) r chain i made by) in
          let c = chained_some q (costs_of rules) r chain m.0 v.0 v.1 in
          let sat : satisfies q (vector_of c.0) r ≡ true = ap (λ w. satisfies q w r) c.2 ∙ better_satisfies q v.0 (vector_of made) r v.2 satisfied in
          let over : is_better (vector_of c.0) (vector_of z) ≡ true = (λ n. is_better (c.2 n) (vector_of (is n))) ∙ v.2 in
          (under_glue chain c.0, (m.0, m.1, (chain, c.0, one, c.1, sat, refl)), over)
