-- Written by tools/cases.py.
-- What the definitions of Derivations are of the values that code makes, for proofs about code.
use Rattle.std.specs.Prelude.{◌≡◌, refl, ℕ, List, Option}
use denote.Hole.Carrier.{hidden}
use Rattle.star_model.specs.declared.derivations.Deriv.TheBlock.{hidden-the_row-Deriv-0}
use Rattle.star_model.specs.declared.derivations.Deriv.TheVariants as made
use Rattle.std.specs.Prelude.{true, ◌&&◌, Some, option_and_then}
use Rattle.star_model.specs.Requirements.{satisfies}
use Rattle.star_model.specs.Plans.{chain_over}
use Rattle.star_model.specs.Goals.{is_target}
use Rattle.star_model.specs.Expected.{Expected, as_glue, goal_body, reference_body, as_leaf, as_unary, as_binary}
use Rattle.star_model.specs.DerivCases.{Glue, Goal, Leaf, Unary, Binary}
use Rattle.star_model.specs.PlanCases as plan
use Rattle.star_model.specs.declared.query.Query.{Query}
use Rattle.star_model.specs.declared.plans.GlueOp.{GlueOp}
use Rattle.star_model.specs.declared.rules.RuleFile.{RuleFile}
use Rattle.star_model.specs.declared.derivations.Deriv.{Deriv}
use Rattle.star_model.specs.Derivations.{plan_of, plan_passes, if_fits, is_valid}
use Rattle.star_model.specs.declared.plans.Goal as goal
use Rattle.star_model.specs.declared.rules.Flavour.{Flavour}

pub plan_of-Glue : (q : Query) (rules : RuleFile) (chain : List GlueOp) (d : Deriv) (x : Expected) → plan_of q rules (made.Glue chain d) x ≡ (option_and_then (λ g. option_and_then (λ p. Some (chain_over g.0 chain p)) (plan_of q rules d g.1)) (as_glue q chain x))
unfolding plan_of hidden-the_row-Deriv-0 hidden
plan_of-Glue q rules chain d x = refl

pub plan_of-Goal : (q : Query) (rules : RuleFile) (g : goal.Goal) (split : Option (ℕ × ℕ)) (d : Deriv) (x : Expected) → plan_of q rules (made.Goal g split d) x ≡ (option_and_then (plan_of q rules d) (goal_body g split x))
unfolding plan_of hidden-the_row-Deriv-0 hidden
plan_of-Goal q rules g split d x = refl

pub plan_of-Reference : (q : Query) (rules : RuleFile) (star : List ℕ) (k : ℕ) (picks : List ℕ) (d : Deriv) (x : Expected) → plan_of q rules (made.Reference star k picks d) x ≡ (option_and_then (plan_of q rules d) (reference_body q rules star k picks x))
unfolding plan_of hidden-the_row-Deriv-0 hidden
plan_of-Reference q rules star k picks d x = refl

pub plan_of-Leaf : (q : Query) (rules : RuleFile) (f : Flavour) (x : Expected) → plan_of q rules (made.Leaf f) x ≡ (option_and_then (λ o. Some (plan.Leaf o)) (as_leaf q f x))
unfolding plan_of
plan_of-Leaf q rules f x = refl

pub plan_of-Unary : (q : Query) (rules : RuleFile) (f : Flavour) (d : Deriv) (x : Expected) → plan_of q rules (made.Unary f d) x ≡ (option_and_then (λ y. option_and_then (λ p. Some (plan.Unary y.0 p)) (plan_of q rules d y.1)) (as_unary q f x))
unfolding plan_of hidden-the_row-Deriv-0 hidden
plan_of-Unary q rules f d x = refl

pub plan_of-Binary : (q : Query) (rules : RuleFile) (f : Flavour) (d : Deriv) (e : Deriv) (x : Expected) → plan_of q rules (made.Binary f d e) x ≡ (option_and_then (λ y. option_and_then (λ p. option_and_then (λ r. Some (plan.Binary y.0 p r)) (plan_of q rules e y.2)) (plan_of q rules d y.1)) (as_binary q f x))
unfolding plan_of hidden-the_row-Deriv-0 hidden
plan_of-Binary q rules f d e x = refl

pub is_valid-Glue : (q : Query) (rules : RuleFile) (chain : List GlueOp) (d : Deriv) (x : Expected) → is_valid q rules (made.Glue chain d) x ≡ (if_fits q rules (as_glue q chain x) (λ g. is_valid q rules d g.1 && plan_passes q rules (λ w. satisfies q w g.0) (plan_of q rules (Glue chain d) x)))
unfolding is_valid hidden-the_row-Deriv-0 hidden
is_valid-Glue q rules chain d x = refl

pub is_valid-Goal : (q : Query) (rules : RuleFile) (g : goal.Goal) (split : Option (ℕ × ℕ)) (d : Deriv) (x : Expected) → is_valid q rules (made.Goal g split d) x ≡ (if_fits q rules (goal_body g split x) (λ y. is_valid q rules d y && plan_passes q rules (is_target q g.tables g.pushed) (plan_of q rules (Goal g split d) x)))
unfolding is_valid hidden-the_row-Deriv-0 hidden
is_valid-Goal q rules g split d x = refl

pub is_valid-Reference : (q : Query) (rules : RuleFile) (star : List ℕ) (k : ℕ) (picks : List ℕ) (d : Deriv) (x : Expected) → is_valid q rules (made.Reference star k picks d) x ≡ (if_fits q rules (reference_body q rules star k picks x) (is_valid q rules d))
unfolding is_valid hidden-the_row-Deriv-0 hidden
is_valid-Reference q rules star k picks d x = refl

pub is_valid-Leaf : (q : Query) (rules : RuleFile) (f : Flavour) (x : Expected) → is_valid q rules (made.Leaf f) x ≡ (plan_passes q rules (λ v. true) (plan_of q rules (Leaf f) x))
unfolding is_valid
is_valid-Leaf q rules f x = refl

pub is_valid-Unary : (q : Query) (rules : RuleFile) (f : Flavour) (d : Deriv) (x : Expected) → is_valid q rules (made.Unary f d) x ≡ (if_fits q rules (as_unary q f x) (λ y. is_valid q rules d y.1 && plan_passes q rules (λ v. true) (plan_of q rules (Unary f d) x)))
unfolding is_valid hidden-the_row-Deriv-0 hidden
is_valid-Unary q rules f d x = refl

pub is_valid-Binary : (q : Query) (rules : RuleFile) (f : Flavour) (d : Deriv) (e : Deriv) (x : Expected) → is_valid q rules (made.Binary f d e) x ≡ (if_fits q rules (as_binary q f x) (λ y. is_valid q rules d y.1 && is_valid q rules e y.2 && plan_passes q rules (λ v. true) (plan_of q rules (Binary f d e) x)))
unfolding is_valid hidden-the_row-Deriv-0 hidden
is_valid-Binary q rules f d e x = refl

pub ruleset plan_of_cases = (plan_of-Glue, plan_of-Goal, plan_of-Reference, plan_of-Leaf, plan_of-Unary, plan_of-Binary)

pub ruleset is_valid_cases = (is_valid-Glue, is_valid-Goal, is_valid-Reference, is_valid-Leaf, is_valid-Unary, is_valid-Binary)
