-- How far a search still has to go: references lead to lower STARs, and inputs nest less deep.
use Rattle.std.proofs.Common.{◌≡◌, ℕ, ◌-◌, ◌<◌, ◌≤◌, max, Bool, true, false, nat_lt, nat_eq, List, [], ◌∷◌, ◌++◌, Option, Some, None, refl, arith, if◌then◌else◌}
use Rattle.std.specs.Prelude.{Contains, option_and_then, slice_get, fold}
use Rattle.std.specs.List.{list_all}
use Rattle.std.proofs.lemmas.Bool.{and_parts, ltb-true}
use Rattle.star_model.specs.Accepted.{IsAccepted, references_in, height_of}
use Rattle.star_model.specs.Stars.{star_named, numbered, alternative_of}
use Rattle.star_model.specs.Vectors.{same_numbers}
use Rattle.star_model.specs.PlanExprCases as expr
use Rattle.star_model.specs.declared.rules.PlanExpr.TheVariants as plain
use Rattle.star_model.specs.declared.rules.Alternative.{Alternative}
use Rattle.star_model.specs.declared.rules.Flavour.{Flavour}
use Rattle.star_model.specs.declared.rules.PlanExpr.{PlanExpr}
use Rattle.star_model.specs.declared.rules.StarDef.{StarDef}
use Rattle.star_model.specs.declared.rules.ValueExpr.{ValueExpr}
use Rattle.star_model.specs.declared.rules.RuleFile.{RuleFile}
use Rattle.star_model.specs.WellFormedRules.{WellFormedRules, nesting}
use Rattle.star_check.specs.Heights.{height_named}
use Rattle.star_check.proofs.Laws.{bodies_refer_below, height_is_named, heights_are_from_one, bodies_are_shallow}
use Rattle.search_places.specs.Searching.{work_at, work_in}
use Rattle.search_places.proofs.Finding.{contains_at, found_in}

lower : (h : List ℕ × List ValueExpr → ℕ) (rs : List (List ℕ × List ValueExpr)) (from top : ℕ) → from < top → list_all (λ r. nat_lt (h r) top) rs ≡ true → fold (λ m r. max m (h r)) from rs < top
lower h [] from top less all = less
lower h (r ∷ rs) from top less all =
    let p = and_parts (nat_lt (h r) top) (list_all (λ r. nat_lt (h r) top) rs) all in
    let this = ltb-true (h r) top p.0 in
    lower h rs (max from (h r)) top (omega (arith, less, this)) p.1

pub body_is_lower : (rules : RuleFile) (star : List ℕ) (n : ℕ) (a : Alternative) → WellFormedRules rules → IsAccepted rules → alternative_of rules star n ≡ Some a
    → work_at rules a.body < work_in rules star 0
body_is_lower rules star n a formed accepted found = go (star_named rules star) refl found
  where
    go : (o : Option StarDef) → star_named rules star ≡ o → option_and_then (λ (s : StarDef). numbered s.alternatives n) o ≡ Some a → work_at rules a.body < work_in rules star 0
    go None named h = cc
    go (Some s) named h =
        let has_star : Contains rules.stars s = (found_in (λ (s : StarDef). same_numbers s.name star) rules.stars s named).0 in
        let has : Contains s.alternatives a = at_number (nat_eq n 0) h in
        let below = bodies_refer_below rules star s a accepted named has in
        let from_one = heights_are_from_one rules s accepted has_star in
        let named_height = height_is_named rules star s named in
        let less = lower (λ r. height_named rules r.0) (references_in a.body) 0 (height_of rules s) (omega (arith, from_one)) below in
        let shallow = bodies_are_shallow rules s a formed has_star has in
        omega (arith, less, named_height, shallow)
      where
        at_number : (b : Bool) → (if b then None else slice_get s.alternatives (n - 1)) ≡ Some a → Contains s.alternatives a
        at_number true h = cc
        at_number false h = contains_at s.alternatives (n - 1) a h

up : (h : List ℕ × List ValueExpr → ℕ) (rs : List (List ℕ × List ValueExpr)) (a : ℕ) → a ≤ fold (λ m r. max m (h r)) a rs
up h [] a = omega arith
up h (r ∷ rs) a = let e = up h rs (max a (h r)) in omega (arith, e)

rises : (h : List ℕ × List ValueExpr → ℕ) (rs : List (List ℕ × List ValueExpr)) (a b : ℕ) → a ≤ b → fold (λ m r. max m (h r)) a rs ≤ fold (λ m r. max m (h r)) b rs
rises h [] a b le = le
rises h (r ∷ rs) a b le = rises h rs (max a (h r)) (max b (h r)) (omega (arith, le))

first_part : (h : List ℕ × List ValueExpr → ℕ) (rs ss : List (List ℕ × List ValueExpr)) (a : ℕ) → fold (λ m r. max m (h r)) a rs ≤ fold (λ m r. max m (h r)) a (rs ++ ss)
first_part h [] ss a = up h ss a
first_part h (r ∷ rs) ss a = first_part h rs ss (max a (h r))

second_part : (h : List ℕ × List ValueExpr → ℕ) (rs ss : List (List ℕ × List ValueExpr)) (a : ℕ) → fold (λ m r. max m (h r)) a ss ≤ fold (λ m r. max m (h r)) a (rs ++ ss)
second_part h [] ss a = omega arith
second_part h (r ∷ rs) ss a = let e = second_part h rs ss (max a (h r)) in let k = rises h ss a (max a (h r)) (omega arith) in omega (arith, e, k)

pub input_is_less : (rules : RuleFile) (f : Flavour) (args : List ValueExpr) (e : PlanExpr) → work_at rules e < work_at rules (expr.Unary f args e)
unfolding references_in nesting
input_is_less rules f args e = omega arith

pub left_is_less : (rules : RuleFile) (f : Flavour) (args : List ValueExpr) (d e : PlanExpr) → work_at rules d < work_at rules (expr.Binary f args d e)
unfolding references_in nesting
left_is_less rules f args d e = let k = first_part (λ r. height_named rules r.0) (references_in d) (references_in e) 0 in omega (arith, k)

pub right_is_less : (rules : RuleFile) (f : Flavour) (args : List ValueExpr) (d e : PlanExpr) → work_at rules e < work_at rules (expr.Binary f args d e)
unfolding references_in nesting
right_is_less rules f args d e = let k = second_part (λ r. height_named rules r.0) (references_in d) (references_in e) 0 in omega (arith, k)

pub call_is_less : (rules : RuleFile) (star : List ℕ) (args : List ValueExpr) → work_in rules star 9 < work_at rules (plain.Reference star args)
unfolding references_in nesting
call_is_less rules star args = omega arith
