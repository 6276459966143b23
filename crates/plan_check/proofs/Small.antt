-- At a place a reference has few arguments, and a STAR that is called has few parameters.
use Rattle.std.proofs.Common.{◌≡◌, ℕ, ◌≤◌, Bool, true, false, ◌&&◌, nat_eq, List, [], ◌∷◌, Option, Some, None, refl, ap, subst, arith, length, if◌then◌else◌}
use Rattle.std.specs.Prelude.{is_some}
use Rattle.std.specs.List.{find}
use Rattle.std.specs.Option.{option_map_or}
use Rattle.std.proofs.lemmas.Bool.{false≢true, and_parts, eqb-true}
use Rattle.std.proofs.lemmas.List.{length-map}
use Rattle.star_model.specs.Accepted.{references_in, count_of_parameters}
use Rattle.star_model.specs.Kinds.{kind_of_value}
use Rattle.star_model.specs.Stars.{star_named}
use Rattle.star_model.specs.Vectors.{same_numbers}
use Rattle.star_model.specs.Expected.{Call, Expression}
use Rattle.star_model.specs.declared.rules.PlanExpr.{PlanExpr}
use Rattle.star_model.specs.declared.rules.PlanExpr.TheVariants as made
use Rattle.star_model.specs.declared.rules.Param.{Param}
use Rattle.star_model.specs.declared.rules.StarDef.{StarDef}
use Rattle.star_model.specs.declared.rules.ValueExpr.{ValueExpr}
use Rattle.star_model.specs.declared.rules.RuleFile.{RuleFile}
use Rattle.star_model.specs.declared.values.RuleValue.{RuleValue}
use Rattle.star_model.specs.Every.{Every}
use Rattle.star_model.specs.WellFormedRules.{WellFormedRules, KeepsStarLimits}
use Rattle.plan_check.specs.Places.{IsPlace}

-- what holds of every item holds of one that is found
each_found : {A : Type 0} (P : A → Type 0) (test : A → Bool) (xs : List A) (x : A) → Every P xs → find test xs ≡ Some x → P x
each_found P test [] x all found = cc
each_found {A} P test (y ∷ ys) x all found = go (test y) (λ later. each_found P test ys x all.1 later) found
  where
    go : (b : Bool) → (find test ys ≡ Some x → P x) → (if b then Some y else find test ys) ≡ Some x → P x
    go true later found = let same : y ≡ x = cc in subst P same all.0
    go false later found = later found

few_parameters : (rules : RuleFile) (star : List ℕ) (d : StarDef) → WellFormedRules rules → star_named rules star ≡ Some d → length d.params ≤ 8
few_parameters rules star d formed named = (each_found KeepsStarLimits (λ (s : StarDef). same_numbers s.name star) rules.stars d formed.limits named).parameters

pub few_values : (rules : RuleFile) (star : List ℕ) (b : List RuleValue) → WellFormedRules rules → IsPlace rules (Call star b) → length b ≤ 8
few_values rules star b formed place =
    let sound = place.1 in
    let kinds = ap length sound.kinds in
    let values = length-map b (λ (v : RuleValue). kind_of_value v) in
    let params = length-map sound.definition.params (λ (p : Param). p.kind) in
    let limit = few_parameters rules star sound.definition formed sound.named in
    omega (arith, kinds, values, params, limit)

some_of : {A : Type 0} (o : Option A) → is_some o ≡ true → (a : A) × (o ≡ Some a)
some_of None h = absurd (false≢true h)
some_of (Some a) h = (a, refl)

pub few_arguments : (rules : RuleFile) (e : PlanExpr) (star : List ℕ) (args : List ValueExpr) (b : List RuleValue) → WellFormedRules rules → e ≡ made.Reference star args → IsPlace rules (Expression e b)
    → length args ≤ 8
unfolding references_in
few_arguments rules e star args b formed is place = few (subst (λ (x : PlanExpr). IsPlace rules (Expression x b)) is place)
  where
    few : IsPlace rules (Expression (made.Reference star args) b) → length args ≤ 8
    few here =
        let first = (and_parts (is_some (star_named rules star) && nat_eq (length args) (count_of_parameters rules star)) true here.1.references).0 in
        let both = and_parts (is_some (star_named rules star)) (nat_eq (length args) (count_of_parameters rules star)) first in
        let d = some_of (star_named rules star) both.0 in
        let count : count_of_parameters rules star ≡ length d.0.params = ap (λ (o : Option StarDef). option_map_or (λ (s : StarDef). length s.params) o 0) d.1 in
        let same = eqb-true (length args) (count_of_parameters rules star) both.1 in
        let limit = few_parameters rules star d.0 formed d.1 in
        omega (arith, count, same, limit)
