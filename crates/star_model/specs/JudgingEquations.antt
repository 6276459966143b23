-- Written by tools/cases.py.
-- What the definitions of Judging are of the values that code makes, for proofs about code.
use Rattle.std.specs.Prelude.{◌≡◌, refl, ℕ, List, [], Option}
use denote.Hole.Carrier.{hidden}
use Rattle.star_model.specs.declared.derivations.Deriv.TheBlock.{hidden-the_row-Deriv-0}
use Rattle.star_model.specs.declared.derivations.Deriv.TheVariants as made
use Rattle.std.specs.Prelude.{◌+◌, ◌∷◌, option_and_then}
use Rattle.star_model.specs.Costs.{costs_of}
use Rattle.star_model.specs.Requirements.{satisfies}
use Rattle.star_model.specs.Operators.{step}
use Rattle.star_model.specs.Plans.{chain_vector}
use Rattle.star_model.specs.Goals.{is_target}
use Rattle.star_model.specs.Expected.{Expected, as_glue, goal_body, reference_body, as_leaf, as_unary, as_binary}
use Rattle.star_model.specs.declared.query.Query.{Query}
use Rattle.star_model.specs.declared.rules.RuleFile.{RuleFile}
use Rattle.star_model.specs.declared.derivations.Deriv.{Deriv}
use Rattle.star_model.specs.Judging.{vector_or, if_valid, fitting, only_if, node_count, judge}
use Rattle.star_model.specs.declared.plans.GlueOp.{GlueOp}
use Rattle.star_model.specs.declared.plans.Goal as goal
use Rattle.star_model.specs.declared.rules.Flavour.{Flavour}

pub node_count-Glue : (chain : List GlueOp) (d : Deriv) → node_count (made.Glue chain d) ≡ (1 + node_count d)
unfolding node_count hidden-the_row-Deriv-0 hidden
node_count-Glue chain d = refl

pub node_count-Goal : (g : goal.Goal) (split : Option (ℕ × ℕ)) (d : Deriv) → node_count (made.Goal g split d) ≡ (1 + node_count d)
unfolding node_count hidden-the_row-Deriv-0 hidden
node_count-Goal g split d = refl

pub node_count-Reference : (star : List ℕ) (k : ℕ) (picks : List ℕ) (d : Deriv) → node_count (made.Reference star k picks d) ≡ (1 + node_count d)
unfolding node_count hidden-the_row-Deriv-0 hidden
node_count-Reference star k picks d = refl

pub node_count-Leaf : (f : Flavour) → node_count (made.Leaf f) ≡ 1
unfolding node_count
node_count-Leaf f = refl

pub node_count-Unary : (f : Flavour) (d : Deriv) → node_count (made.Unary f d) ≡ (1 + node_count d)
unfolding node_count hidden-the_row-Deriv-0 hidden
node_count-Unary f d = refl

pub node_count-Binary : (f : Flavour) (d : Deriv) (e : Deriv) → node_count (made.Binary f d e) ≡ (1 + node_count d + node_count e)
unfolding node_count hidden-the_row-Deriv-0 hidden
node_count-Binary f d e = refl

pub judge-Glue : (q : Query) (rules : RuleFile) (chain : List GlueOp) (d : Deriv) (x : Expected) (n : ℕ) → judge q rules (made.Glue chain d) x n ≡ (fitting n (as_glue q chain x) (λ g. if_valid (judge q rules d g.1 (n + 1)) (λ v. vector_or n (option_and_then (only_if (λ w. satisfies q w g.0)) (chain_vector q (costs_of rules) g.0 chain v)))))
unfolding judge hidden-the_row-Deriv-0 hidden
judge-Glue q rules chain d x n = refl

pub judge-Goal : (q : Query) (rules : RuleFile) (g : goal.Goal) (split : Option (ℕ × ℕ)) (d : Deriv) (x : Expected) (n : ℕ) → judge q rules (made.Goal g split d) x n ≡ (fitting n (goal_body g split x) (λ y. if_valid (judge q rules d y (n + 1)) (λ v. vector_or n (only_if (is_target q g.tables g.pushed) v))))
unfolding judge hidden-the_row-Deriv-0 hidden
judge-Goal q rules g split d x n = refl

pub judge-Reference : (q : Query) (rules : RuleFile) (star : List ℕ) (k : ℕ) (picks : List ℕ) (d : Deriv) (x : Expected) (n : ℕ) → judge q rules (made.Reference star k picks d) x n ≡ (fitting n (reference_body q rules star k picks x) (λ y. judge q rules d y (n + 1)))
unfolding judge hidden-the_row-Deriv-0 hidden
judge-Reference q rules star k picks d x n = refl

pub judge-Leaf : (q : Query) (rules : RuleFile) (f : Flavour) (x : Expected) (n : ℕ) → judge q rules (made.Leaf f) x n ≡ (fitting n (as_leaf q f x) (λ o. vector_or n (step q (costs_of rules) o [])))
unfolding judge
judge-Leaf q rules f x n = refl

pub judge-Unary : (q : Query) (rules : RuleFile) (f : Flavour) (d : Deriv) (x : Expected) (n : ℕ) → judge q rules (made.Unary f d) x n ≡ (fitting n (as_unary q f x) (λ y. if_valid (judge q rules d y.1 (n + 1)) (λ v. vector_or n (step q (costs_of rules) y.0 (v ∷ [])))))
unfolding judge hidden-the_row-Deriv-0 hidden
judge-Unary q rules f d x n = refl

pub judge-Binary : (q : Query) (rules : RuleFile) (f : Flavour) (d : Deriv) (e : Deriv) (x : Expected) (n : ℕ) → judge q rules (made.Binary f d e) x n ≡ (fitting n (as_binary q f x) (λ y. if_valid (judge q rules d y.1 (n + 1)) (λ v. if_valid (judge q rules e y.2 (n + 1 + node_count d)) (λ w. vector_or n (step q (costs_of rules) y.0 (v ∷ w ∷ []))))))
unfolding judge hidden-the_row-Deriv-0 hidden
judge-Binary q rules f d e x n = refl

pub ruleset node_count_cases = (node_count-Glue, node_count-Goal, node_count-Reference, node_count-Leaf, node_count-Unary, node_count-Binary)

pub ruleset judge_cases = (judge-Glue, judge-Goal, judge-Reference, judge-Leaf, judge-Unary, judge-Binary)
