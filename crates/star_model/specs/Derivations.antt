-- The plan of a derivation, which derivations are valid, root derivations, the least ones, and the frontier of a goal.
use Rattle.std.specs.Prelude.{◌≡◌, ℕ, ◌≤◌, Bool, true, false, ◌&&◌, List, Option, Some, option_and_then}
use Rattle.std.specs.Option.{option_map_or}
use Rattle.star_model.specs.Costs.{costs_of}
use Rattle.star_model.specs.Requirements.{satisfies}
use Rattle.star_model.specs.Vectors.{is_better}
use Rattle.star_model.specs.Plans.{vector, is_chain, chain_over}
use Rattle.star_model.specs.Goals.{is_target}
use Rattle.star_model.specs.Expected.{Expected, ForGoal, as_glue, goal_body, reference_body, as_leaf, as_unary, as_binary, query_goal, root_requirement}
use Rattle.star_model.specs.DerivCases.{Glue, Goal, Reference, Leaf, Unary, Binary}
use Rattle.star_model.specs.PlanCases as plan
use Rattle.star_model.specs.declared.query.Query.{Query}
use Rattle.star_model.specs.declared.plans.Props.{Props}
use Rattle.star_model.specs.declared.plans.Plan.{Plan}
use Rattle.star_model.specs.declared.plans.GlueOp.{GlueOp}
use Rattle.star_model.specs.declared.rules.RuleFile.{RuleFile}
use Rattle.star_model.specs.declared.derivations.Deriv.{Deriv}

module _ (q : Query) (rules : RuleFile) where
  -- the plan of a tree that stands against x: its operators, without goals and references
  unfoldable pub plan_of : Deriv → Expected → Option Plan
  plan_of (Glue chain d) x = option_and_then (λ g. option_and_then (λ p. Some (chain_over g.0 chain p)) (plan_of d g.1)) (as_glue q chain x)
  plan_of (Goal g split d) x = option_and_then (plan_of d) (goal_body g split x)
  plan_of (Reference star k picks d) x = option_and_then (plan_of d) (reference_body q rules star k picks x)
  plan_of (Leaf f) x = option_and_then (λ o. Some (plan.Leaf o)) (as_leaf q f x)
  plan_of (Unary f d) x = option_and_then (λ y. option_and_then (λ p. Some (plan.Unary y.0 p)) (plan_of d y.1)) (as_unary q f x)
  plan_of (Binary f d e) x = option_and_then (λ y. option_and_then (λ p. option_and_then (λ r. Some (plan.Binary y.0 p r)) (plan_of e y.2)) (plan_of d y.1)) (as_binary q f x)

  -- whether there is a plan, it has a vector under the file's formulas, and the vector passes
  abbrev pub plan_passes : (Props → Bool) → Option Plan → Bool
  plan_passes test p = option_map_or test (option_and_then (vector q (costs_of rules)) p) false

  abbrev pub if_fits : {A : Type 0} → Option A → (A → Bool) → Bool
  if_fits o test = option_map_or test o false

  -- whether the tree is valid against x: its top fits, the trees below are valid, and its plan has a vector; that of a Glue
  -- satisfies the requirement, and that of a goal has the goal's target
  unfoldable pub is_valid : Deriv → Expected → Bool
  is_valid (Glue chain d) x = if_fits (as_glue q chain x) (λ g. is_valid d g.1 && plan_passes (λ w. satisfies q w g.0) (plan_of (Glue chain d) x))
  is_valid (Goal g split d) x = if_fits (goal_body g split x) (λ y. is_valid d y && plan_passes (is_target q g.tables g.pushed) (plan_of (Goal g split d) x))
  is_valid (Reference star k picks d) x = if_fits (reference_body q rules star k picks x) (is_valid d)
  is_valid (Leaf f) x = plan_passes (λ v. true) (plan_of (Leaf f) x)
  is_valid (Unary f d) x = if_fits (as_unary q f x) (λ y. is_valid d y.1 && plan_passes (λ v. true) (plan_of (Unary f d) x))
  is_valid (Binary f d e) x = if_fits (as_binary q f x) (λ y. is_valid d y.1 && is_valid e y.2 && plan_passes (λ v. true) (plan_of (Binary f d e) x))

  -- the tree is valid against x, and this is the vector of its plan
  pub record HasVector (d : Deriv) (x : Expected) (v : Props) : Type 0 where
    pub valid : is_valid d x ≡ true
    pub of_plan : option_and_then (vector q (costs_of rules)) (plan_of d x) ≡ Some v

  -- a root derivation: a Glue node with one of the chains of the query's requirement, over a valid node for the goal of all
  -- quantifiers and no predicates; v is the vector of its plan, and satisfies the requirement
  pub record IsRoot (tree : Deriv) (v : Props) : Type 0 where
    pub chain : List GlueOp
    pub goal_node : Deriv
    pub glue : tree ≡ Glue chain goal_node
    pub one_of_chains : is_chain (root_requirement q) chain ≡ true
    pub valid : is_valid goal_node (query_goal q) ≡ true
    pub goal_plan : Plan
    pub of_goal : plan_of goal_node (query_goal q) ≡ Some goal_plan
    pub of_plan : vector q (costs_of rules) (chain_over (root_requirement q) chain goal_plan) ≡ Some v
    pub satisfied : satisfies q v (root_requirement q) ≡ true

  -- a root derivation, and none costs less
  pub record IsLeast (tree : Deriv) (v : Props) : Type 0 where
    pub root : IsRoot tree v
    pub least : (other : Deriv) (w : Props) → IsRoot other w → v.cost ≤ w.cost

  -- the vector of a valid node for the goal
  abbrev pub IsOfGoal : (tables pushed : ℕ) → Props → Type 0
  IsOfGoal tables pushed v = (d : Deriv) × HasVector d (ForGoal tables pushed) v

  -- on the frontier of the goal: a vector of a valid node for it, and no other is better
  pub record OnFrontier (tables pushed : ℕ) (v : Props) : Type 0 where
    pub of_goal : IsOfGoal tables pushed v
    pub unbeaten : (w : Props) → IsOfGoal tables pushed w → is_better w v ≡ true → w ≡ v
