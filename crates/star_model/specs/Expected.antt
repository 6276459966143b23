-- What a node of a derivation stands against, and what its parts stand against then.
use Rattle.std.specs.Prelude.{ℕ, ◌-◌, Bool, true, false, not, ◌&&◌, nat_eq, List, [], ◌∷◌, ◌++◌, map, Option, Some, None, slice_index_or, codes, option_and_then, if◌then◌else◌}
use Rattle.std.specs.List.{list_any}
use Rattle.star_model.specs.Sets.{union, meet, size}
use Rattle.star_model.specs.Costs.{same_flavour}
use Rattle.star_model.specs.Predicates.{crossing, all_quants}
use Rattle.star_model.specs.Vectors.{same_numbers}
use Rattle.star_model.specs.Meaning.{meaning, numbers_of, member_at, holds, as_stream, as_preds, as_cols, as_site, as_index, plain}
use Rattle.star_model.specs.Plans.{is_chain}
use Rattle.star_model.specs.Stars.{alternative_of}
use Rattle.star_model.specs.PlanExprCases as expr
use Rattle.star_model.specs.declared.query.Query.{Query}
use Rattle.star_model.specs.declared.plans.Require.{Require}
use Rattle.star_model.specs.declared.plans.Goal as goal
use Rattle.star_model.specs.declared.plans.GlueOp.{GlueOp}
use Rattle.star_model.specs.declared.plans.Op.{Op}
use Rattle.star_model.specs.declared.plans.Op.TheVariants as op
use Rattle.star_model.specs.declared.rules.Flavour.{Flavour}
use Rattle.star_model.specs.declared.rules.Flavour.TheVariants as flavour
use Rattle.star_model.specs.declared.rules.PlanExpr.{PlanExpr}
use Rattle.star_model.specs.declared.rules.ValueExpr.{ValueExpr}
use Rattle.star_model.specs.declared.rules.Condition.{Condition}
use Rattle.star_model.specs.declared.rules.ForAll.{ForAll}
use Rattle.star_model.specs.declared.rules.RuleFile.{RuleFile}
use Rattle.star_model.specs.declared.values.RuleValue.{RuleValue}
use Rattle.star_model.specs.declared.values.RuleValue.TheVariants as is

-- what a node stands against: the query, a goal, a reference to a STAR with the values of its arguments, or a plan expression under
-- bindings
pub data Expected : Type 0 where
  ForQuery : Expected
  ForGoal : (tables pushed : ℕ) → Expected
  Call : (star : List ℕ) (b : List RuleValue) → Expected
  Expression : (e : PlanExpr) (b : List RuleValue) → Expected

abbrev pub values_of : Query → List RuleValue → List ValueExpr → List RuleValue
values_of q b args = map (meaning q b) args

-- ---- a Glue node: a requirement, and a goal

-- the query's order and site, and all its quantifiers and no predicates
abbrev pub root_requirement : Query → Require
root_requirement q = record { order = q.order; site = q.site; temp = false; path = [] }

abbrev pub query_goal : Query → Expected
query_goal q = ForGoal (all_quants q) 0

-- the quantifiers of a stream, and those of the predicates that touch them and others
abbrev pub goal_of : Query → ℕ → ℕ → Expected
goal_of q s preds = ForGoal s (meet preds (crossing q s))

abbrev pub glue_of : Query → Expected → Option (Require × Expected)
glue_of q ForQuery = Some (root_requirement q, query_goal q)
glue_of q (Expression (expr.Glue t p) b) = let s = as_stream (meaning q b t) in Some (s.require, goal_of q s.tables (as_preds (meaning q b p)))
glue_of q _ = None

-- the requirement, with what the goal node stands against; none where the node doesn't fit, as with another chain
abbrev pub as_glue : Query → List GlueOp → Expected → Option (Require × Expected)
as_glue q chain x = option_and_then (λ g. if is_chain g.0 chain then Some g else None) (glue_of q x)

-- ---- a goal node: its goal, a split, and a reference to one of the two root STARs, with streams that require nothing

-- no split for one quantifier, else a pair of nonempty disjoint sets whose union is the set
abbrev pub may_split : ℕ → Option (ℕ × ℕ) → Bool
may_split s None = nat_eq (size s) 1
may_split s (Some p) = not (nat_eq (size s) 1) && nat_eq (union p.0 p.1) s && nat_eq (meet p.0 p.1) 0 && not (nat_eq p.0 0) && not (nat_eq p.1 0)

abbrev pub root_call : ℕ → ℕ → Option (ℕ × ℕ) → Expected
root_call s j None = Call (codes "AccessRoot") (plain s ∷ is.Preds j ∷ [])
root_call s j (Some p) = Call (codes "JoinRoot") (plain p.0 ∷ plain p.1 ∷ is.Preds j ∷ [])

abbrev pub body_of_goal : ℕ → ℕ → goal.Goal → Option (ℕ × ℕ) → Option Expected
body_of_goal s j g split = if nat_eq g.tables s && nat_eq g.pushed j && may_split s split then Some (root_call s j split) else None

abbrev pub as_goal : Expected → Option (ℕ × ℕ)
as_goal (ForGoal s j) = Some (s, j)
as_goal _ = None

-- what the body of a goal node stands against; none where the node doesn't fit
abbrev pub goal_body : goal.Goal → Option (ℕ × ℕ) → Expected → Option Expected
goal_body g split x = option_and_then (λ p. body_of_goal p.0 p.1 g split) (as_goal x)

-- ---- a reference node: its STAR, an alternative whose condition holds, and a value for each for-all clause

-- the bindings with one for-all value for each for-all clause, each a member of its range under the bindings so far
abbrev pub bound : Query → List ForAll → List ℕ → List RuleValue → Option (List RuleValue)
bound q [] [] b = Some b
bound q [] (n ∷ ns) b = None
bound q (f ∷ fs) [] b = None
bound q (f ∷ fs) (n ∷ ns) b =
    if not (nat_eq n 0) && list_any (nat_eq (n - 1)) (numbers_of q b f.range) then bound q fs ns (b ++ member_at f.range (n - 1) ∷ []) else None

abbrev pub meets : Query → List RuleValue → Option Condition → Bool
meets q b None = true
meets q b (Some c) = holds q b c

abbrev pub body_of : Query → RuleFile → List ℕ → List RuleValue → ℕ → List ℕ → Option Expected
body_of q rules star b n picks =
    option_and_then (λ a. option_and_then (λ c. if meets q c a.condition then Some (Expression a.body c) else None) (bound q a.ranges picks b)) (alternative_of rules star n)

abbrev pub as_call : Query → Expected → Option (List ℕ × List RuleValue)
as_call q (Expression (expr.Reference star args) b) = Some (star, values_of q b args)
as_call q (Call star b) = Some (star, b)
as_call q _ = None

-- what the body of a reference node stands against; none where the node doesn't fit
abbrev pub reference_body : Query → RuleFile → List ℕ → ℕ → List ℕ → Expected → Option Expected
reference_body q rules star n picks x = option_and_then (λ call. if same_numbers star call.0 then body_of q rules star call.1 n picks else None) (as_call q x)

-- ---- an operator node: its flavour, the values of its arguments, and its inputs

abbrev pub at_index : List RuleValue → ℕ → RuleValue
at_index vs n = slice_index_or vs n (is.Quants 0)

-- an operator with the values of its arguments; a stream gives its quantifiers
abbrev pub operator_of : Flavour → List RuleValue → Op
operator_of flavour.AccessHeap vs = op.AccessHeap (as_stream (at_index vs 0)).tables (as_preds (at_index vs 1))
operator_of flavour.AccessIndex vs = op.AccessIndex (as_stream (at_index vs 0)).tables (as_index (at_index vs 1)) (as_preds (at_index vs 2))
operator_of flavour.Get vs = op.Get (as_stream (at_index vs 0)).tables (as_preds (at_index vs 1))
operator_of flavour.Filter vs = op.Filter (as_preds (at_index vs 0))
operator_of flavour.Sort vs = op.Sort (as_cols (at_index vs 0))
operator_of flavour.Store vs = op.Store (as_cols (at_index vs 0))
operator_of flavour.Ship vs = op.Ship (as_site (at_index vs 0))
operator_of flavour.Probe vs = op.Probe (as_cols (at_index vs 0)) (as_preds (at_index vs 1))
operator_of flavour.JoinNl vs = op.JoinNl (as_preds (at_index vs 0))
operator_of flavour.JoinMerge vs = op.JoinMerge (as_preds (at_index vs 0)) (as_preds (at_index vs 1))
operator_of flavour.JoinHash vs = op.JoinHash (as_preds (at_index vs 0)) (as_preds (at_index vs 1))
operator_of flavour.Intersect vs = op.Intersect

-- the arguments of an expression that is this operator with no input, and with one or two these too
unfoldable pub leaf_of : Flavour → PlanExpr → Option (List ValueExpr)
leaf_of f (expr.Leaf g args) = if same_flavour f g then Some args else None
leaf_of f _ = None

unfoldable pub unary_of : Flavour → PlanExpr → Option (List ValueExpr × PlanExpr)
unary_of f (expr.Unary g args e) = if same_flavour f g then Some (args, e) else None
unary_of f _ = None

unfoldable pub binary_of : Flavour → PlanExpr → Option (List ValueExpr × PlanExpr × PlanExpr)
binary_of f (expr.Binary g args d e) = if same_flavour f g then Some (args, d, e) else None
binary_of f _ = None

-- the operator, with what its inputs stand against; none where the node doesn't fit
abbrev pub as_leaf : Query → Flavour → Expected → Option Op
as_leaf q f (Expression e b) = option_and_then (λ args. Some (operator_of f (values_of q b args))) (leaf_of f e)
as_leaf q f _ = None

abbrev pub as_unary : Query → Flavour → Expected → Option (Op × Expected)
as_unary q f (Expression e b) = option_and_then (λ p. Some (operator_of f (values_of q b p.0), Expression p.1 b)) (unary_of f e)
as_unary q f _ = None

abbrev pub as_binary : Query → Flavour → Expected → Option (Op × Expected × Expected)
as_binary q f (Expression e b) = option_and_then (λ p. Some (operator_of f (values_of q b p.0), Expression p.1 b, Expression p.2 b)) (binary_of f e)
as_binary q f _ = None
