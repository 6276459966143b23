-- Which derived plans belong to a place, and of what each form of place makes them. A place is what a node of a derivation stands
-- against: the query, a goal, a call of a STAR, or a plan expression under bindings.
use Rattle.std.specs.Prelude.{◌≡◌, ℕ, true, List, ◌++◌, Option, Some}
use Rattle.star_model.specs.Costs.{costs_of}
use Rattle.star_model.specs.Goals.{is_target}
use Rattle.star_model.specs.Expected.{Expected, Expression, may_split, root_call, bound, meets, body_of, operator_of, values_of}
use Rattle.star_model.specs.Derivations.{plan_of, is_valid}
use Rattle.star_model.specs.declared.query.Query.{Query}
use Rattle.star_model.specs.declared.costs.CostEntry.{CostEntry}
use Rattle.star_model.specs.declared.plans.Op.{Op}
use Rattle.star_model.specs.declared.plans.Require.{Require}
use Rattle.star_model.specs.declared.rules.Alternative.{Alternative}
use Rattle.star_model.specs.declared.rules.Flavour.{Flavour}
use Rattle.star_model.specs.declared.rules.ForAll.{ForAll}
use Rattle.star_model.specs.declared.rules.PlanExpr.{PlanExpr}
use Rattle.star_model.specs.declared.rules.ValueExpr.{ValueExpr}
use Rattle.star_model.specs.declared.rules.RuleFile.{RuleFile}
use Rattle.star_model.specs.declared.values.RuleValue.{RuleValue}
use Rattle.dominance_prune.specs.Gathering.{IsFrontier}
use Rattle.lolepop.specs.PlanTrees.{plan_under, Fits}
use Rattle.lolepop.specs.Derived.{DerivedPlan, vector_of, is_better_plan, derived_leaf, derived_unary, derived_binary, GluesTo, under_goal, under_reference}

module _ (q : Query) (rules : RuleFile) where
  -- the derivation is valid at the place, and the tree is that of its plan, with the vectors of the plan and of each of its inputs
  pub record IsDerived (x : Expected) (e : DerivedPlan) : Type 0 where
    pub valid : is_valid q rules e.deriv x ≡ true
    pub plan : plan_of q rules e.deriv x ≡ Some (plan_under e.tree)
    pub fits : Fits q (costs_of rules) e.tree

  -- the set has a best plan above each that is derived at the place, and no other plan
  abbrev pub IsBestOf : Expected → List DerivedPlan → Type 0
  IsBestOf x plans = IsFrontier is_better_plan (IsDerived x) plans

-- ---- what one node makes of the plans of its inputs

module _ (q : Query) (costs : List CostEntry) where
  -- the operator without inputs gives it
  abbrev pub LeafWay : Flavour → List ValueExpr → List RuleValue → DerivedPlan → Type 0
  LeafWay f args b x = derived_leaf q costs f (operator_of f (values_of q b args)) ≡ Some x

  -- the operator gives it over the input
  abbrev pub OverOne : Flavour → Op → DerivedPlan → DerivedPlan → Type 0
  OverOne f o i x = derived_unary q costs f o i ≡ Some x

  -- the operator gives it over the two inputs
  abbrev pub OverTwo : Flavour → Op → DerivedPlan → DerivedPlan → DerivedPlan → Type 0
  OverTwo f o i j x = derived_binary q costs f o i j ≡ Some x

-- a reference to the alternative with this number and these for-all values gives it over the plan of the body
abbrev pub RefersTo : List ℕ → ℕ → List ℕ → DerivedPlan → DerivedPlan → Type 0
RefersTo star n picks i x = x ≡ under_reference star n picks i

-- the goal gives it over the plan of the split's root STAR, which has the goal's target
abbrev pub ReachesTo : Query → ℕ → ℕ → Option (ℕ × ℕ) → DerivedPlan → DerivedPlan → Type 0
ReachesTo q s j split i x = (is_target q s j (vector_of i) ≡ true) × (x ≡ under_goal (record { tables = s; pushed = j }) split i)

-- ---- what each form of place makes of what is derived at its parts

module _ (q : Query) (rules : RuleFile) where
  -- the operator gives it over a plan of its input
  abbrev pub UnaryWay : Flavour → List ValueExpr → PlanExpr → List RuleValue → DerivedPlan → Type 0
  UnaryWay f args e b x = (i : DerivedPlan) × IsDerived q rules (Expression e b) i × OverOne q (costs_of rules) f (operator_of f (values_of q b args)) i x

  -- the operator gives it over plans of its inputs
  abbrev pub BinaryWay : Flavour → List ValueExpr → PlanExpr → PlanExpr → List RuleValue → DerivedPlan → Type 0
  BinaryWay f args d e b x =
      (i : DerivedPlan) × (j : DerivedPlan) × IsDerived q rules (Expression d b) i × IsDerived q rules (Expression e b) j
      × OverTwo q (costs_of rules) f (operator_of f (values_of q b args)) i j x

  -- a chain of the requirement gives it over a plan of the place below Glue
  abbrev pub GlueWay : Require → Expected → DerivedPlan → Type 0
  GlueWay r y x = (i : DerivedPlan) × IsDerived q rules y i × GluesTo q (costs_of rules) r i x

  -- the alternative with this number and these for-all values gives it over a plan of its body, if its condition holds
  abbrev pub BodyWay : List ℕ → List RuleValue → ℕ → List ℕ → DerivedPlan → Type 0
  BodyWay star b n picks x = (y : Expected) × (i : DerivedPlan) × (body_of q rules star b n picks ≡ Some y) × IsDerived q rules y i × RefersTo star n picks i x

  -- some alternative of the STAR does, with some for-all values
  abbrev pub CallWay : List ℕ → List RuleValue → DerivedPlan → Type 0
  CallWay star b x = (n : ℕ) × (picks : List ℕ) × BodyWay star b n picks x

  -- alternative n, its for-all names bound by the values with these numbers, gives it over a plan of its body, if its condition holds
  abbrev pub BoundWay : List ℕ → ℕ → Alternative → List ℕ → List RuleValue → DerivedPlan → Type 0
  BoundWay star n a picks c x = (i : DerivedPlan) × (meets q c a.condition ≡ true) × IsDerived q rules (Expression a.body c) i × RefersTo star n picks i x

  -- some of the names are bound, by the values with these numbers: values of the others, in their order, bind the rest so that it does
  abbrev pub RangesWay : List ℕ → ℕ → Alternative → List ForAll → List ℕ → List RuleValue → DerivedPlan → Type 0
  RangesWay star n a ranges picked c x = (more : List ℕ) × (e : List RuleValue) × (bound q ranges more c ≡ Some e) × BoundWay star n a (picked ++ more) e x

  -- the split of the goal gives it over a plan of its root STAR
  abbrev pub SplitWay : ℕ → ℕ → Option (ℕ × ℕ) → DerivedPlan → Type 0
  SplitWay s j split x = (i : DerivedPlan) × (may_split s split ≡ true) × IsDerived q rules (root_call s j split) i × ReachesTo q s j split i x

  -- some split of the goal does
  abbrev pub GoalWay : ℕ → ℕ → DerivedPlan → Type 0
  GoalWay s j x = (split : Option (ℕ × ℕ)) × SplitWay s j split x
