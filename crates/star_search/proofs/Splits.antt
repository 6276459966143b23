-- What the splits of a goal make.
use Rattle.star_model.specs.Expected.{Expected, ForGoal, Call, may_split}
use Rattle.std.proofs.Common.{◌≡◌, ℕ, ◌<◌, ◌^◌, true, false, nat_eq, List, [], ◌∷◌, ◌++◌, Result, Ok, Err, OnOk, Option, Some, None, refl, ap, sym, ◌∙◌, subst, arith}
use Rattle.std.specs.Prelude.{Contains}
use Rattle.std.proofs.lemmas.List.Elements.{Contains-append_right}
use Rattle.std.proofs.lemmas.Bool.{ne_eqb}
use Rattle.star_model.specs.Sets.{size, splits}
use Rattle.star_model.specs.declared.plans.Goal.{Goal}
use Rattle.star_model.specs.declared.query.Query.{Query}
use Rattle.star_model.specs.declared.rules.RuleFile.{RuleFile}
use Rattle.star_model.specs.declared.values.RuleValue.{RuleValue}
use Rattle.dominance_prune.specs.Antichains.{IsAntichain}
use Rattle.dominance_prune.specs.Gathering.{Gathers, From}
use Rattle.lolepop.specs.Derived.{DerivedPlan, vector_of, is_better_plan, under_goal}
use Rattle.exchange.specs.Places.{IsBestOf, ReachesTo, SplitWay}
use Rattle.exchange.proofs.Laws.{split_exchange, one_exchange, several_exchange, split_listed}
use Rattle.plan_offers.specs.declared.target.Target.{Target}
use Rattle.plan_offers.specs.Targets.{target_of, meets_target}
use Rattle.search_places.specs.declared.search.Search.{Search}
use Rattle.search_places.specs.Searching.{LeadsTo}
use Rattle.search_places.specs.Roots.{root_of_split}
use Rattle.star_value.specs.Roots.{root_values}
use Rattle.search_places.proofs.Laws.{root_is_called, to_root}

-- what the members of a root's set make that meet the target
pub split_done : (q : Query) (rules : RuleFile) (goal : Goal) (split : Option (ℕ × ℕ)) (t : Target) (root : List ℕ) (values : List RuleValue) (plans old new : List DerivedPlan) → may_split goal.tables split ≡ true
    → root ≡ root_of_split split → values ≡ root_values goal.tables goal.pushed split → IsBestOf q rules (Call root values) plans → t ≡ target_of q goal
    → Gathers is_better_plan old new (From plans (λ i x. (meets_target t (vector_of i) ≡ true) × (x ≡ under_goal t.goal split i))) → Gathers is_better_plan old new (SplitWay q rules goal.tables goal.pushed split)
split_done q rules goal split t root values plans old new may is_root are best is_target g =
    let called : IsBestOf q rules (Call (root_of_split split) (root_values goal.tables goal.pushed split)) plans =
    subst (λ (vs : List RuleValue). IsBestOf q rules (Call (root_of_split split) vs) plans) are (subst (λ (r : List ℕ). IsBestOf q rules (Call r values) plans) is_root best) in
    let reached : Gathers is_better_plan old new (From plans (ReachesTo q goal.tables goal.pushed split)) =
    subst (λ (u : Target). Gathers is_better_plan old new (From plans (λ i x. (meets_target u (vector_of i) ≡ true) × (x ≡ under_goal u.goal split i)))) is_target g in
    split_exchange q rules goal.tables goal.pushed split plans old new may (subst (λ (x : Expected). IsBestOf q rules x plans) (sym (root_is_called goal.tables goal.pushed split)) called) reached

-- the next split of a goal may be one
pub next_may : (s : ℕ) (seen left later : List (ℕ × ℕ)) (p : ℕ × ℕ) → s < 2 ^ 32 → nat_eq (size s) 1 ≡ false → splits s ≡ seen ++ left → left ≡ p ∷ later → may_split s (Some p) ≡ true
next_may s seen left later p fits several all at =
    let whole : splits s ≡ seen ++ p ∷ later = all ∙ ap (λ (xs : List (ℕ × ℕ)). seen ++ xs) at in
    (split_listed s fits several p).1 (subst (λ (xs : List (ℕ × ℕ)). Contains xs p) (sym whole) (Contains-append_right seen (p ∷ later) p (0, omega arith, refl)))

-- of a goal of one quantifier, all is made
pub one_done : (q : Query) (rules : RuleFile) (s j n : ℕ) (start out set : List DerivedPlan) → n ≡ size s → n ≡ 1 → start ≡ [] → Gathers is_better_plan start out (SplitWay q rules s j None) → set ≡ out
    → IsAntichain is_better_plan set → IsBestOf q rules (ForGoal s j) set
one_done q rules s j n start out set is one empty g same apart = record {
  gathered = one_exchange q rules s j [] set (sym is ∙ one)
      (subst (λ (from : List DerivedPlan). Gathers is_better_plan from set (SplitWay q rules s j None)) empty
      (subst (λ (to : List DerivedPlan). Gathers is_better_plan start to (SplitWay q rules s j None)) (sym same) g));
  apart = apart;
}

-- of a goal of several quantifiers, all is made
pub several_done : (q : Query) (rules : RuleFile) (s j n : ℕ) (start out set : List DerivedPlan) → s < 2 ^ 32 → n ≡ size s → (n ≡ 1 → ⊥) → start ≡ []
    → Gathers is_better_plan start out (From (splits s) (λ p. SplitWay q rules s j (Some p))) → set ≡ out → IsAntichain is_better_plan set → IsBestOf q rules (ForGoal s j) set
several_done q rules s j n start out set fits is several empty g same apart = record {
  gathered = several_exchange q rules s j [] set fits (ne_eqb (size s) 1 (λ one. several (is ∙ one)))
      (subst (λ (from : List DerivedPlan). Gathers is_better_plan from set (From (splits s) (λ p. SplitWay q rules s j (Some p)))) empty
      (subst (λ (to : List DerivedPlan). Gathers is_better_plan start to (From (splits s) (λ p. SplitWay q rules s j (Some p)))) (sym same) g));
  apart = apart;
}

-- the call of the root, by the names that the code has
pub root_leads : (s : Search) (split : Option (ℕ × ℕ)) (root : List ℕ) (values : List RuleValue) → may_split s.goal.tables split ≡ true → root ≡ root_of_split split
    → values ≡ root_values s.goal.tables s.goal.pushed split → LeadsTo s (Call root values)
root_leads s split root values may is_root are =
    subst (λ (r : List ℕ). LeadsTo s (Call r values)) (sym is_root) (subst (λ (vs : List RuleValue). LeadsTo s (Call (root_of_split split) vs)) (sym are) (to_root s split may))

pub on_ok : {T E : Type 0} (r : Result T E) (P Q : Type 0) → (P → Q) → OnOk r P → OnOk r Q
on_ok (Ok x) P Q then_ h = then_ h
on_ok (Err x) P Q then_ h = h
