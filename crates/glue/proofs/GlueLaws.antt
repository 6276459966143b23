-- What Glue has gathered after some of the lists, and after all.
use Rattle.std.proofs.Common.{◌≡◌, ℕ, ◌+◌, ◌<◌, List, [], ◌∷◌, ◌++◌, length, get_or, take, sym, subst}
use Rattle.std.proofs.lemmas.List.{take_more}
use Rattle.star_model.specs.declared.query.Query.{Query}
use Rattle.star_model.specs.declared.costs.CostEntry.{CostEntry}
use Rattle.star_model.specs.declared.plans.GlueOp.{GlueOp}
use Rattle.star_model.specs.declared.plans.Require.{Require}
use Rattle.dominance_prune.specs.Antichains.{IsAntichain}
use Rattle.dominance_prune.specs.Gathering.{Gathers, From, IsFrontier}
use Rattle.dominance_prune.specs.GatheringCases.{Gathers-more, Gathers-same, IsFrontier-has}
use Rattle.lolepop.specs.PlanTrees.{Fits}
use Rattle.lolepop.specs.Derived.{DerivedPlan, is_better_plan, GluesTo, AllFit}
use Rattle.glue.specs.Gluing.{ChainsOver}
use Rattle.glue.proofs.ListedChains.{listed, each_chain_is_listed}
use Rattle.glue.proofs.ChainOffers.{chained_fits}

pub chains_more : (P : List GlueOp → DerivedPlan → Type 0) (lists : List (List GlueOp)) (i : ℕ) (words : List GlueOp) (a b c : List DerivedPlan) → i < length lists → get_or lists i [] ≡ words
    → Gathers is_better_plan a b (From (take i lists) P) → Gathers is_better_plan b c (P words) → Gathers is_better_plan a c (From (take (i + 1) lists) P)
chains_more P lists i words a b c below at seen next =
    let one : List GlueOp → Type 0 = λ w. Gathers is_better_plan a c (From (take i lists ++ w ∷ []) P) in
    let all : List (List GlueOp) → Type 0 = λ chains. Gathers is_better_plan a c (From chains P) in
    subst all (sym (take_more lists i [] below)) (subst one (sym at) (Gathers-more is_better_plan P (take i lists) words a b c seen next))

module _ (q : Query) (costs : List CostEntry) (r : Require) (plans : List DerivedPlan) where
  pub all_glued : (old out : List DerivedPlan) → old ≡ [] → Gathers is_better_plan old out (From listed (ChainsOver q costs r plans)) → IsAntichain is_better_plan out
      → IsFrontier is_better_plan (From plans (GluesTo q costs r)) out
  all_glued old out none all apart =
      let begun : List DerivedPlan → Type 0 = λ start. Gathers is_better_plan start out (From listed (ChainsOver q costs r plans)) in
      record {
        gathered = Gathers-same is_better_plan (From listed (ChainsOver q costs r plans)) (From plans (GluesTo q costs r)) [] out
            (λ x (chain, among, (one, (e, there, (made, by, satisfied, is)))). (e, there, (chain, made, one, by, satisfied, is)))
            (λ x (e, there, (chain, made, one, by, satisfied, is)). (chain, each_chain_is_listed r chain one, (one, (e, there, (made, by, satisfied, is)))))
            (subst begun none all);
        apart = apart;
      }

  pub glued_fit : (out : List DerivedPlan) → AllFit q costs plans → IsFrontier is_better_plan (From plans (GluesTo q costs r)) out → AllFit q costs out
  glued_fit out fits frontier x among =
      let (e, there, glued) = IsFrontier-has is_better_plan (From plans (GluesTo q costs r)) out frontier x among in
      let (chain, made, one, by, satisfied, is) = glued in
      subst (λ (z : DerivedPlan). Fits q costs z.tree) (sym is) (chained_fits q costs r chain e made (fits e there) by)
