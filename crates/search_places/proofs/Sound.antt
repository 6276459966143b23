-- What an accepted file keeps where a search comes: a reference has few arguments, and a STAR that is called has few alternatives.
use Rattle.std.proofs.Common.{◌≡◌, ℕ, ◌+◌, ◌-◌, ◌≤◌, Bool, true, false, ◌&&◌, not, nat_eq, List, [], ◌∷◌, Option, Some, None, refl, ap, sym, ◌∙◌, subst, arith, length, if◌then◌else◌}
use Rattle.std.specs.Prelude.{option_and_then, slice_get, is_some, IsSome}
use Rattle.std.specs.List.{list_all}
use Rattle.std.specs.Option.{option_map_or}
use Rattle.std.proofs.lemmas.Bool.{false≢true, and_parts, eqb-true, ne_eqb}
use Rattle.std.proofs.lemmas.List.{length-map}
use Rattle.star_model.specs.Accepted.{IsAccepted, references_in, count_of_parameters, root_name}
use Rattle.star_model.specs.Goals.{IsGoal}
use Rattle.star_model.specs.Kinds.{kind_of_value}
use Rattle.star_model.specs.Stars.{star_named, numbered, alternative_of}
use Rattle.star_model.specs.Vectors.{same_numbers}
use Rattle.star_model.specs.Expected.{Call, Expression}
use Rattle.star_model.specs.declared.faults.Root.{Root}
use Rattle.star_model.specs.declared.rules.Alternative.{Alternative}
use Rattle.star_model.specs.declared.rules.PlanExpr.{PlanExpr}
use Rattle.star_model.specs.declared.rules.PlanExpr.TheVariants as made
use Rattle.star_model.specs.declared.rules.Param.{Param}
use Rattle.star_model.specs.declared.rules.StarDef.{StarDef}
use Rattle.star_model.specs.declared.rules.ValueExpr.{ValueExpr}
use Rattle.star_model.specs.declared.rules.RuleFile.{RuleFile}
use Rattle.star_model.specs.declared.values.RuleValue.{RuleValue}
use Rattle.star_model.specs.WellFormedRules.{WellFormedRules, KeepsStarLimits}
use Rattle.star_check.specs.SoundPlaces.{IsSoundCall, IsSoundExpression}
use Rattle.star_check.proofs.Laws.{goal_leads_to_sound}
use Rattle.search_places.specs.declared.search.Search.{Search}
use Rattle.search_places.specs.Searching.{LeadsTo, IsWithin}
use Rattle.search_places.proofs.Finding.{found_in, each_of, each_in}

some_of : {A : Type 0} (o : Option A) → is_some o ≡ true → (a : A) × (o ≡ Some a)
some_of None h = absurd (false≢true h)
some_of (Some a) h = (a, refl)

one_passes : {A : Type 0} (test : A → Bool) (x : A) → list_all test (x ∷ []) ≡ true → test x ≡ true
one_passes test x h = (and_parts (test x) true h).0

limits_of : (rules : RuleFile) (star : List ℕ) (d : StarDef) → WellFormedRules rules → star_named rules star ≡ Some d → KeepsStarLimits d
limits_of rules star d formed named = each_in KeepsStarLimits rules.stars d formed.limits (found_in (λ (s : StarDef). same_numbers s.name star) rules.stars d named).0

pub few_alternatives : (rules : RuleFile) (star : List ℕ) (d : StarDef) → WellFormedRules rules → star_named rules star ≡ Some d → length d.alternatives ≤ 16
few_alternatives rules star d formed named = (limits_of rules star d formed named).alternatives

pub few_arguments : (s : Search) (e : PlanExpr) (star : List ℕ) (args : List ValueExpr) (b : List RuleValue) → WellFormedRules s.rules.now → IsAccepted s.rules.now
    → IsGoal s.query.now s.goal.tables s.goal.pushed → e ≡ made.Reference star args → LeadsTo s (Expression e b) → length args ≤ 8
unfolding references_in
few_arguments s e star args b formed accepted goal is leads = few (goal_leads_to_sound s.rules.now accepted s.query.now s.goal.tables s.goal.pushed (Expression (made.Reference star args) b) goal
    (subst (λ (x : PlanExpr). LeadsTo s (Expression x b)) is leads))
  where
    few : IsSoundExpression s.rules.now s.goal.tables (made.Reference star args) b → length args ≤ 8
    few sound =
        let both = and_parts (is_some (star_named s.rules.now star)) (nat_eq (length args) (count_of_parameters s.rules.now star))
        (one_passes (λ (r : List ℕ × List ValueExpr). is_some (star_named s.rules.now r.0) && nat_eq (length r.1) (count_of_parameters s.rules.now r.0)) (star, args) sound.references) in
        let d = some_of (star_named s.rules.now star) both.0 in
        let count : count_of_parameters s.rules.now star ≡ length d.0.params = ap (λ (o : Option StarDef). option_map_or (λ (s : StarDef). length s.params) o 0) d.1 in
        let same = eqb-true (length args) (count_of_parameters s.rules.now star) both.1 in
        let limit = (limits_of s.rules.now star d.0 formed d.1).parameters in
        omega (arith, count, same, limit)

-- a call of a STAR leads into each of its alternatives, of which nothing is bound yet
pub to_alternative : (s : Search) (star : List ℕ) (b : List RuleValue) (d : StarDef) (i : ℕ) (a : Alternative) → WellFormedRules s.rules.now → IsAccepted s.rules.now
    → IsGoal s.query.now s.goal.tables s.goal.pushed → LeadsTo s (Call star b) → star_named s.rules.now star ≡ Some d → slice_get d.alternatives i ≡ Some a
    → IsWithin s star (i + 1) a a.ranges [] b
to_alternative s star b d i a formed accepted goal leads named at = within (goal_leads_to_sound s.rules.now accepted s.query.now s.goal.tables s.goal.pushed (Call star b) goal leads)
  where
    back : i + 1 - 1 ≡ i
    back = omega arith

    there : alternative_of s.rules.now star (i + 1) ≡ Some a
    there =
        ap (option_and_then (λ (s : StarDef). numbered s.alternatives (i + 1))) named
        ∙ ap (λ (t : Bool). if t then None else slice_get d.alternatives (i + 1 - 1)) (ne_eqb (i + 1) 0 (λ h. let no : ⊥ = omega (arith, h) in no))
        ∙ ap (slice_get d.alternatives) back ∙ at

    few_ranges : length a.ranges ≤ 2
    few_ranges = each_of (λ (a : Alternative). length a.ranges ≤ 2) d.alternatives i a (limits_of s.rules.now star d formed named).ranges at

    few_values : IsSoundCall s.rules.now s.goal.tables star b → length b ≤ 8
    few_values sound =
        let kinds = ap length sound.kinds in
        let values = length-map b (λ (v : RuleValue). kind_of_value v) in
        let params = length-map sound.definition.params (λ (p : Param). p.kind) in
        let limit = (limits_of s.rules.now star sound.definition formed sound.named).parameters in
        omega (arith, kinds, values, params, limit)

    within : IsSoundCall s.rules.now s.goal.tables star b → IsWithin s star (i + 1) a a.ranges [] b
    within sound = record {
      call = b;
      leads = leads;
      found = there;
      bindings = λ more. refl;
      room = (let values = few_values sound in let ranges = few_ranges in omega (arith, values, ranges));
      numbers = (let ranges = few_ranges in omega (arith, ranges));
    }

-- the roots are there, by letters that the code has
pub root_is_there : (rules own : RuleFile) (r : Root) (letters : List ℕ) → IsAccepted rules → own ≡ rules → letters ≡ root_name rules r → IsSome (star_named own letters)
root_is_there rules own r letters accepted same are =
    subst (λ (file : RuleFile). IsSome (star_named file letters)) (sym same)
    (subst (λ (name : List ℕ). IsSome (star_named rules name)) (sym are) (is_there (star_named rules (root_name rules r)) (accepted.roots r)))
  where
    is_there : (o : Option StarDef) → not (is_some o) ≡ false → IsSome o
    is_there None h = sym h
    is_there (Some d) h = refl
