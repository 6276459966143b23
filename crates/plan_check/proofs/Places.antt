-- Where judging comes is sound: what the parts of a node stand against that stands against a place is one.
use Rattle.std.proofs.Common.{◌≡◌, ℕ, ◌^◌, Bool, true, false, ◌&&◌, nat_eq, nat_lt, List, Option, Some, None, refl, ap, sym, ◌∙◌, subst, if◌then◌else◌}
use Rattle.std.specs.Prelude.{option_and_then}
use Rattle.std.proofs.lemmas.Bool.{and_parts, ltb-true}
use Rattle.star_model.proofs.Laws.{same_are}
use Rattle.star_model.specs.AskedGoals.{Below, AskedGoal}
use Rattle.star_model.specs.Accepted.{IsAccepted}
use Rattle.star_model.specs.Costs.{same_flavour}
use Rattle.star_model.specs.Sets.{is_within}
use Rattle.star_model.specs.Predicates.{all_quants}
use Rattle.star_model.specs.Meaning.{meaning, as_stream}
use Rattle.star_model.specs.Vectors.{same_numbers}
use Rattle.star_model.specs.WellFormed.{WellFormedQuery}
use Rattle.star_model.specs.Expected.{Expected, ForGoal, Call, Expression, glue_of, query_goal, may_split, root_call, goal_body, body_of, as_call, values_of, reference_body, operator_of, unary_of, binary_of, as_unary, as_binary}
use Rattle.star_model.specs.PlanExprCases as expr
use Rattle.star_model.specs.declared.rules.PlanExpr.TheVariants as plain
use Rattle.star_model.specs.declared.plans.Goal.{Goal}
use Rattle.star_model.specs.declared.plans.Op.{Op}
use Rattle.star_model.specs.declared.plans.Require.{Require}
use Rattle.star_model.specs.declared.query.Query.{Query}
use Rattle.star_model.specs.declared.rules.Flavour.{Flavour}
use Rattle.star_model.specs.declared.rules.PlanExpr.{PlanExpr}
use Rattle.star_model.specs.declared.rules.RuleFile.{RuleFile}
use Rattle.star_model.specs.declared.rules.ValueExpr.{ValueExpr}
use Rattle.star_model.specs.declared.values.RuleValue.{RuleValue}
use Rattle.star_check.specs.SoundPlaces.{may_read}
use Rattle.star_check.proofs.Laws.{below_is_sound, glue_reads_within, asked_goals_are_goals}
use Rattle.plan_check.specs.Places.{IsPlace}

below : (rules : RuleFile) (q : Query) (x y : Expected) → IsAccepted rules → IsPlace rules x → Below q rules x y → IsPlace rules y
below rules q x y accepted place step = (place.0, below_is_sound rules accepted q place.0 x y step place.1)

pub body_is_place : (rules : RuleFile) (q : Query) (star letters : List ℕ) (n : ℕ) (picks : List ℕ) (call : List RuleValue) (y : Expected) → IsAccepted rules → IsPlace rules (Call letters call)
    → reference_body q rules star n picks (Call letters call) ≡ Some y → IsPlace rules y
body_is_place rules q star letters n picks call y accepted place is = go (same_numbers star letters) refl is
  where
    go : (b : Bool) → same_numbers star letters ≡ b → (if b then body_of q rules star call n picks else None) ≡ Some y → IsPlace rules y
    go true same is =
        below rules q (Call letters call) y accepted place
        (Below.by_alternative letters call n picks y (ap (λ (s : List ℕ). body_of q rules s call n picks) (sym (same_are star letters same)) ∙ is))
    go false same is = cc

pub call_is_place : (rules : RuleFile) (q : Query) (e : PlanExpr) (b : List RuleValue) (star : List ℕ) (values : List RuleValue) → IsAccepted rules → IsPlace rules (Expression e b)
    → as_call q (Expression e b) ≡ Some (star, values) → IsPlace rules (Call star values)
call_is_place rules q (plain.Reference called args) b star values accepted place is =
    let P : Option (List ℕ × List RuleValue) → Type 0 = λ o. elim o [ Some c ↦ IsPlace rules (Call c.0 c.1) | None ↦ ⊥ ] in
    subst P is (below rules q (Expression (plain.Reference called args) b) (Call called (values_of q b args)) accepted place (Below.by_reference called args b))
call_is_place rules q (plain.Glue s p) b star values accepted place is = cc
call_is_place rules q (plain.Leaf f args) b star values accepted place is = cc
call_is_place rules q (expr.Unary f args e) b star values accepted place is = cc
call_is_place rules q (expr.Binary f args d e) b star values accepted place is = cc

pub root_is_place : (rules : RuleFile) (q : Query) (g : Goal) (split : Option (ℕ × ℕ)) (s j : ℕ) (y : Expected) → IsAccepted rules → IsPlace rules (ForGoal s j)
    → goal_body g split (ForGoal s j) ≡ Some y → IsPlace rules y
root_is_place rules q g split s j y accepted place is = go (nat_eq g.tables s && nat_eq g.pushed j && may_split s split) refl is
  where
    go : (b : Bool) → (nat_eq g.tables s && nat_eq g.pushed j && may_split s split) ≡ b → (if b then Some (root_call s j split) else None) ≡ Some y → IsPlace rules y
    go true fits is =
        let same : root_call s j split ≡ y = cc in
        subst (IsPlace rules) same
        (below rules q (ForGoal s j) (root_call s j split) accepted place (Below.by_split s j split (and_parts (nat_eq g.tables s && nat_eq g.pushed j) (may_split s split) fits).1))
    go false fits is = cc

abbrev goal_tables : Option (Require × Expected) → ℕ
goal_tables (Some (r, ForGoal t j)) = t
goal_tables _ = 0

pub goal_is_place : (rules : RuleFile) (q : Query) (e : PlanExpr) (b : List RuleValue) (r : Require) (t j : ℕ) → IsAccepted rules → IsPlace rules (Expression e b)
    → glue_of q (Expression e b) ≡ Some (r, ForGoal t j) → IsPlace rules (ForGoal t j)
goal_is_place rules q (plain.Glue stream preds) b r t j accepted place is =
    let s = (as_stream (meaning q b stream)).tables in
    let same : s ≡ t = ap goal_tables is in
    let read : may_read place.0 t ≡ true = ap (may_read place.0) (sym same) ∙ glue_reads_within rules accepted q place.0 stream preds b place.1 in
    let within = (and_parts (nat_lt 0 t && nat_lt t (2 ^ 32) && is_within t place.0) _ read).0 in
    let bounds = and_parts (nat_lt 0 t) (nat_lt t (2 ^ 32)) (and_parts (nat_lt 0 t && nat_lt t (2 ^ 32)) (is_within t place.0) within).0 in
    (t, (refl, ltb-true 0 t bounds.0, ltb-true t (2 ^ 32) bounds.1))
goal_is_place rules q (plain.Reference called args) b r t j accepted place is = cc
goal_is_place rules q (plain.Leaf f args) b r t j accepted place is = cc
goal_is_place rules q (expr.Unary f args e) b r t j accepted place is = cc
goal_is_place rules q (expr.Binary f args d e) b r t j accepted place is = cc

pub query_is_place : (rules : RuleFile) (q : Query) → IsAccepted rules → WellFormedQuery q → IsPlace rules (query_goal q)
query_is_place rules q accepted formed =
    let goal = asked_goals_are_goals q rules accepted formed (all_quants q) 0 AskedGoal.of_query in
    (all_quants q, (refl, goal.some, goal.bounds.0))

pub input_is_place : (rules : RuleFile) (q : Query) (f : Flavour) (e : PlanExpr) (b : List RuleValue) (o : Op) (y : Expected) → IsAccepted rules → IsPlace rules (Expression e b)
    → as_unary q f (Expression e b) ≡ Some (o, y) → IsPlace rules y
unfolding unary_of
input_is_place rules q f (expr.Unary g args input) b o y accepted place is = go (same_flavour f g) is
  where
    go : (t : Bool) → option_and_then {U = Op × Expected} (λ (p : List ValueExpr × PlanExpr). Some (operator_of f (values_of q b p.0), Expression p.1 b)) (if t then Some (args, input) else None) ≡ Some (o, y) → IsPlace rules y
    go true is =
        let P : Option (Op × Expected) → Type 0 = λ o. elim o [ Some p ↦ IsPlace rules p.1 | None ↦ ⊥ ] in
        subst P is (below rules q (Expression (expr.Unary g args input) b) (Expression input b) accepted place (Below.by_input g args input b))
    go false is = cc
input_is_place rules q f (plain.Reference called args) b o y accepted place is = cc
input_is_place rules q f (plain.Glue s p) b o y accepted place is = cc
input_is_place rules q f (plain.Leaf g args) b o y accepted place is = cc
input_is_place rules q f (expr.Binary g args d e) b o y accepted place is = cc

pub inputs_are_places : (rules : RuleFile) (q : Query) (f : Flavour) (e : PlanExpr) (b : List RuleValue) (o : Op) (y z : Expected) → IsAccepted rules → IsPlace rules (Expression e b)
    → as_binary q f (Expression e b) ≡ Some (o, y, z) → IsPlace rules y × IsPlace rules z
unfolding binary_of
inputs_are_places rules q f (expr.Binary g args left right) b o y z accepted place is = go (same_flavour f g) is
  where
    go : (t : Bool) → option_and_then {U = Op × Expected × Expected} (λ (p : List ValueExpr × PlanExpr × PlanExpr). Some (operator_of f (values_of q b p.0), Expression p.1 b, Expression p.2 b)) (if t then Some (args, left, right) else None) ≡ Some (o, y, z)
        → IsPlace rules y × IsPlace rules z
    go true is =
        let P : Option (Op × Expected × Expected) → Type 0 = λ o. elim o [ Some p ↦ IsPlace rules p.1 × IsPlace rules p.2 | None ↦ ⊥ ] in
        subst P is (
          below rules q (Expression (expr.Binary g args left right) b) (Expression left b) accepted place (Below.by_left g args left right b),
          below rules q (Expression (expr.Binary g args left right) b) (Expression right b) accepted place (Below.by_right g args left right b),
        )
    go false is = cc
inputs_are_places rules q f (plain.Reference called args) b o y z accepted place is = cc
inputs_are_places rules q f (plain.Glue s p) b o y z accepted place is = cc
inputs_are_places rules q f (plain.Leaf g args) b o y z accepted place is = cc
inputs_are_places rules q f (expr.Unary g args e) b o y z accepted place is = cc
