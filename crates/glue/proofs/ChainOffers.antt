-- What the offer of one chain over one plan gathers, where its vector is tested before any of it is made.
use Rattle.std.proofs.Common.{◌≡◌, Bool, true, false, not, ◌&&◌, List, [], ◌∷◌, Option, Some, None, refl, sym, ◌∙◌, ap, subst}
use Rattle.std.specs.Prelude.{option_and_then}
use Rattle.std.specs.List.{list_any}
use Rattle.std.specs.Option.{option_map_or}
use Rattle.std.proofs.lemmas.List.Folds.{Any-from_list_any}
use Rattle.star_model.specs.Plans.{op_of}
use Rattle.star_model.specs.Requirements.{satisfies}
use Rattle.star_model.specs.Vectors.{is_better}
use Rattle.star_model.specs.declared.query.Query.{Query}
use Rattle.star_model.specs.declared.costs.CostEntry.{CostEntry}
use Rattle.star_model.specs.declared.plans.GlueOp.{GlueOp}
use Rattle.star_model.specs.declared.plans.Require.{Require}
use Rattle.dominance_prune.specs.Gathering.{HasAbove, Gathers}
use Rattle.dominance_prune.specs.GatheringCases.{Gathers-nothing, Gathers-covered, Gathers-same}
use Rattle.lolepop.specs.PlanTrees.{Fits}
use Rattle.lolepop.specs.Derived.{DerivedPlan, vector_of, is_better_plan, enforced, chained, under_glue}
use Rattle.lolepop.proofs.Laws.{enforced_gives, unary_fits}
use Rattle.exchange.proofs.Laws.{chained_vector}
use Rattle.glue.specs.Gluing.{ChainsTo, is_new, is_wanted}

bind : {A B : Type 0} (f : A → Option B) (o : Option A) (b : B) → option_and_then f o ≡ Some b → (a : A) × (o ≡ Some a) × (f a ≡ Some b)
bind f None b h = cc
bind f (Some a) b h = (a, refl, h)

some_is : {A : Type 0} (a b : A) → Some a ≡ Some b → a ≡ b
some_is a b h = cc

never : {A : Type 0} (a : A) → None ≡ Some a → ⊥
never a h = cc

first_true : (a b : Bool) → (a && b) ≡ true → a ≡ true
first_true true b h = refl
first_true false b h = h

second_false : (a b : Bool) → a ≡ true → (a && not b) ≡ false → b ≡ true
second_false true true p h = refl
second_false true false p h = sym h
second_false false b p h = absurd (cc)

module _ (q : Query) (costs : List CostEntry) (r : Require) where
  -- ---- chains

  pub chained_fits : (chain : List GlueOp) (e m : DerivedPlan) → Fits q costs e.tree → chained q costs r chain e ≡ Some m → Fits q costs m.tree
  chained_fits [] e m f h = subst (λ (z : DerivedPlan). Fits q costs z.tree) (some_is e m h) f
  chained_fits (o ∷ os) e m f h =
      let b = bind (chained q costs r os) (enforced q costs r o e) m h in
      let s = (enforced_gives q costs r o e b.0).0 b.1 in
      let next = subst (λ (z : DerivedPlan). Fits q costs z.tree) (sym s.1) (unary_fits q costs (op_of r o) (vector_of b.0) e.tree f s.0) in
      chained_fits os b.0 m next b.2

  -- ---- the test of the vector

  tested : (chain : List GlueOp) (e m : DerivedPlan) (plans : List DerivedPlan) → chained q costs r chain e ≡ Some m
      → is_wanted q costs r chain (vector_of e) plans ≡ is_new q r plans (vector_of m)
  tested chain e m plans by = ap (λ found. option_map_or (is_new q r plans) found false) (chained_vector q costs r chain e m by)

  -- ---- offers

  pub not_wanted : (chain : List GlueOp) (e : DerivedPlan) (plans : List DerivedPlan) → is_wanted q costs r chain (vector_of e) plans ≡ false
      → Gathers is_better_plan plans plans (ChainsTo q costs r chain e)
  not_wanted chain e plans old = Gathers-covered is_better_plan (ChainsTo q costs r chain e) plans (λ x made. covered x made)
    where
      covered : (x : DerivedPlan) → ChainsTo q costs r chain e x → HasAbove is_better_plan plans x
      covered x (made, by, satisfied, is) =
          let known = second_false (satisfies q (vector_of made) r) (list_any (λ m. is_better (vector_of m) (vector_of made)) plans) satisfied
          (sym (tested chain e made plans by) ∙ old) in
          let P : DerivedPlan → Type 0 = λ z. HasAbove is_better_plan plans z in
          subst P (sym is) (Any-from_list_any (λ m. is_better (vector_of m) (vector_of made)) plans known)

  pub not_made : (chain : List GlueOp) (e : DerivedPlan) (plans : List DerivedPlan) → chained q costs r chain e ≡ None → Gathers is_better_plan plans plans (ChainsTo q costs r chain e)
  not_made chain e plans none = Gathers-nothing is_better_plan (ChainsTo q costs r chain e) plans (λ x made. never made.0 (sym none ∙ made.1))

  pub glued_offered : (chain : List GlueOp) (e m x : DerivedPlan) (plans old new : List DerivedPlan) → is_wanted q costs r chain (vector_of e) plans ≡ true → chained q costs r chain e ≡ Some m
      → x ≡ under_glue chain m → Gathers is_better_plan old new (λ z. z ≡ x) → Gathers is_better_plan old new (ChainsTo q costs r chain e)
  glued_offered chain e m x plans old new wanted by is g =
      let satisfied = first_true (satisfies q (vector_of m) r) (not (list_any (λ p. is_better (vector_of p) (vector_of m)) plans)) (sym (tested chain e m plans by) ∙ wanted) in
      Gathers-same is_better_plan (λ z. z ≡ x) (ChainsTo q costs r chain e) old new (λ z same. (m, by, satisfied, same ∙ is))
      (λ z made. made.3 ∙ ap (under_glue chain) (some_is made.0 m (sym made.1 ∙ by)) ∙ sym is) g
