-- Which trees fit: each plan with a vector has one.
use Rattle.std.proofs.Common.{◌≡◌, refl, sym, ◌∙◌, ap, List, [], ◌∷◌, Option, Some, None}
use Rattle.std.specs.Option.{option_and_then, option_map_or}
use Rattle.star_model.specs.Operators.{step, nothing}
use Rattle.star_model.specs.Plans.{vector}
use Rattle.star_model.specs.PlanCases as plan
use Rattle.star_model.specs.declared.plans.Plan.TheVariants as made
use Rattle.star_model.specs.declared.query.Query.{Query}
use Rattle.star_model.specs.declared.costs.CostEntry.{CostEntry}
use Rattle.star_model.specs.declared.plans.Op.{Op}
use Rattle.star_model.specs.declared.plans.Plan.{Plan}
use Rattle.star_model.specs.declared.plans.Props.{Props}
use Rattle.lolepop.specs.PlanTrees.{PlanTree, Leaf, Unary, Binary, top_vector, plan_under, Fits}

module _ (q : Query) (costs : List CostEntry) where
  -- ---- the vector of a fitting tree is that of its plan

  pub fits_vector : (t : PlanTree) → Fits q costs t → vector q costs (plan_under t) ≡ Some (top_vector t)
  fits_vector (Leaf o v) h = h
  fits_vector (Unary o v t) h = h.0
  fits_vector (Binary o v s t) h = h.0

  -- ---- an operator over fitting trees

  pub leaf_fits : (o : Op) (v : Props) → step q costs o [] ≡ Some v → Fits q costs (Leaf o v)
  unfolding vector
  leaf_fits o v h = h

  pub unary_fits : (o : Op) (v : Props) (t : PlanTree) → Fits q costs t → step q costs o (top_vector t ∷ []) ≡ Some v → Fits q costs (Unary o v t)
  unfolding vector
  unary_fits o v t f h = (ap (option_and_then (λ w. step q costs o (w ∷ []))) (fits_vector t f) ∙ h, f)

  pub binary_fits : (o : Op) (v : Props) (s t : PlanTree) → Fits q costs s → Fits q costs t → step q costs o (top_vector s ∷ top_vector t ∷ []) ≡ Some v
      → Fits q costs (Binary o v s t)
  unfolding vector
  binary_fits o v s t f g h =
      let over : Option Props → Option Props → Option Props = λ a b. option_and_then (λ x. option_and_then (λ y. step q costs o (x ∷ y ∷ [])) b) a in
      ((λ i. over (fits_vector s f i) (fits_vector t g i)) ∙ h, f, g)

  -- ---- the tree of a plan

  abbrev vector_or_nothing : Option Props → Props
  vector_or_nothing v = option_map_or (λ w. w) v nothing

  -- a plan with the vector of each node
  abbrev annotated : Plan → PlanTree
  annotated (made.Leaf o) = Leaf o (vector_or_nothing (vector q costs (made.Leaf o)))
  annotated (plan.Unary o p) = Unary o (vector_or_nothing (vector q costs (plan.Unary o p))) (annotated p)
  annotated (plan.Binary o a b) = Binary o (vector_or_nothing (vector q costs (plan.Binary o a b))) (annotated a) (annotated b)

  annotated_plan : (p : Plan) → plan_under (annotated p) ≡ p
  annotated_plan (made.Leaf o) = refl
  annotated_plan (plan.Unary o p) = λ i. plan.Unary o (annotated_plan p i)
  annotated_plan (plan.Binary o a b) = λ i. plan.Binary o (annotated_plan a i) (annotated_plan b i)

  some_below : (f : Props → Option Props) (x : Option Props) (v : Props) → option_and_then f x ≡ Some v → (w : Props) × (x ≡ Some w)
  some_below f None v h = cc
  some_below f (Some w) v h = (w, refl)

  -- a vector is the one that is read from the equation
  read_vector : (x : Option Props) (v : Props) → x ≡ Some v → x ≡ Some (vector_or_nothing x)
  read_vector None v h = cc
  read_vector (Some w) v h = refl

  annotated_fits : (p : Plan) (v : Props) → vector q costs p ≡ Some v → Fits q costs (annotated p)
  unfolding vector
  annotated_fits (made.Leaf o) v h = read_vector _ v h
  annotated_fits (plan.Unary o p) v h =
      let below = some_below _ (vector q costs p) v h in
      (ap (vector q costs) (annotated_plan (plan.Unary o p)) ∙ read_vector _ v h, annotated_fits p below.0 below.1)
  annotated_fits (plan.Binary o a b) v h =
      let over : Props → Option Props = λ x. option_and_then (λ y. step q costs o (x ∷ y ∷ [])) (vector q costs b) in
      let left = some_below over (vector q costs a) v h in
      let right = some_below (λ y. step q costs o (left.0 ∷ y ∷ [])) (vector q costs b) v (sym (ap (option_and_then over) left.1) ∙ h) in
      (ap (vector q costs) (annotated_plan (plan.Binary o a b)) ∙ read_vector _ v h, annotated_fits a left.0 left.1, annotated_fits b right.0 right.1)

  pub tree_exists : (p : Plan) (v : Props) → vector q costs p ≡ Some v → (t : PlanTree) × Fits q costs t × (plan_under t ≡ p) × (top_vector t ≡ v)
  tree_exists p v h =
      let fits = annotated_fits p v h in
      let vectors : Some (top_vector (annotated p)) ≡ Some v = sym (fits_vector (annotated p) fits) ∙ ap (vector q costs) (annotated_plan p) ∙ h in
      (annotated p, fits, annotated_plan p, cc)

  -- ---- the tree of a plan is the only one

  is_annotated : (t : PlanTree) → Fits q costs t → t ≡ annotated (plan_under t)
  is_annotated (Leaf o v) h = λ i. Leaf o (vector_or_nothing (sym h i))
  is_annotated (Unary o v t) h = λ i. Unary o (vector_or_nothing (sym h.0 i)) (is_annotated t h.1 i)
  is_annotated (Binary o v s t) h = λ i. Binary o (vector_or_nothing (sym h.0 i)) (is_annotated s h.1 i) (is_annotated t h.2 i)

  pub one_tree : (s t : PlanTree) → Fits q costs s → Fits q costs t → plan_under s ≡ plan_under t → s ≡ t
  one_tree s t f g h = is_annotated s f ∙ ap annotated h ∙ sym (is_annotated t g)
