-- What a memo holds, and after a put.
use Rattle.std.proofs.Common.{◌≡◌, Bool, true, false, ◌&&◌, not, nat_eq, cond, ◌⊎◌, inl, inr, List, [], ◌∷◌, ◌++◌, Some, None, filter, refl, ap, sym, ◌∙◌, subst, if◌then◌else◌}
use Rattle.std.specs.List.{Contains, find, AllByRecursion, IsDistinct}
use Rattle.std.specs.Option.{option_map}
use Rattle.std.specs.Map.{lookup, remove_entry}
use Rattle.std.proofs.lemmas.Map.Keys.{IsDistinct-head, IsDistinct-tail}
use Rattle.std.proofs.lemmas.Map.Views.{Contains-from_lookup}
use Rattle.std.proofs.lemmas.Bool.{and_parts, eqb-true, eq-eqb}
use Rattle.star_model.specs.declared.plans.Goal.{Goal}
use Rattle.lolepop.specs.Derived.{DerivedPlan}
use Rattle.table_set_memo.specs.Memos.{GoalSet, same_goal, goals_of, plans_at}

pub same_goal-self : (g : Goal) → same_goal g g ≡ true
same_goal-self g = (λ i. eq-eqb g.tables g.tables refl i && eq-eqb g.pushed g.pushed refl i)

pub same_goal-true : (g h : Goal) → same_goal g h ≡ true → g ≡ h
same_goal-true g h same =
    let both = and_parts (nat_eq g.tables h.tables) (nat_eq g.pushed h.pushed) same in
    (λ i. record { tables = eqb-true g.tables h.tables both.0 i; pushed = eqb-true g.pushed h.pushed both.1 i })

-- as the map that holds the sets says it
pub plans_at-lookup : (g : Goal) (memo : List GoalSet) → lookup (same_goal g) memo ≡ plans_at memo g
plans_at-lookup g [] = refl
plans_at-lookup g (s ∷ memo) = by (same_goal g s.0) (plans_at-lookup g memo)
  where
    by : (b : Bool) → lookup (same_goal g) memo ≡ plans_at memo g → cond b (Some s.1) (lookup (same_goal g) memo) ≡ option_map (λ (s : GoalSet). s.1) (if b then Some s else find (λ (s : GoalSet). same_goal g s.0) memo)
    by true later = refl
    by false later = later

-- a goal that is held stands in the memo with its set
pub plans_at-listed : (memo : List GoalSet) (g : Goal) (plans : List DerivedPlan) → plans_at memo g ≡ Some plans → Contains memo (g, plans)
plans_at-listed memo g plans at = Contains-from_lookup same_goal-true g plans memo (plans_at-lookup g memo ∙ at)

-- ---- puts

pub plans_at-push_old : (memo added : List GoalSet) (g : Goal) (plans : List DerivedPlan) → plans_at memo g ≡ Some plans → plans_at (memo ++ added) g ≡ Some plans
plans_at-push_old [] added g plans h = cc
plans_at-push_old (s ∷ memo) added g plans h = by (same_goal g s.0) (plans_at-push_old memo added g plans) h
  where
    by : (b : Bool) → (plans_at memo g ≡ Some plans → plans_at (memo ++ added) g ≡ Some plans)
        → option_map (λ (s : GoalSet). s.1) (if b then Some s else find (λ (s : GoalSet). same_goal g s.0) memo) ≡ Some plans
        → option_map (λ (s : GoalSet). s.1) (if b then Some s else find (λ (s : GoalSet). same_goal g s.0) (memo ++ added)) ≡ Some plans
    by true later h = h
    by false later h = later h

pub plans_at-push_new : (memo : List GoalSet) (g : Goal) (plans : List DerivedPlan) → plans_at memo g ≡ None → plans_at (memo ++ (g, plans) ∷ []) g ≡ Some plans
plans_at-push_new [] g plans none = ap (λ b. option_map (λ (s : GoalSet). s.1) (if b then Some (g, plans) else None)) (same_goal-self g)
plans_at-push_new (s ∷ memo) g plans none = by (same_goal g s.0) (plans_at-push_new memo g plans) none
  where
    by : (b : Bool) → (plans_at memo g ≡ None → plans_at (memo ++ (g, plans) ∷ []) g ≡ Some plans)
        → option_map (λ (s : GoalSet). s.1) (if b then Some s else find (λ (s : GoalSet). same_goal g s.0) memo) ≡ None
        → option_map (λ (s : GoalSet). s.1) (if b then Some s else find (λ (s : GoalSet). same_goal g s.0) (memo ++ (g, plans) ∷ [])) ≡ Some plans
    by true later none = cc
    by false later none = later none

pub plans_at-push_cases : (memo : List GoalSet) (g h : Goal) (plans found : List DerivedPlan) → plans_at (memo ++ (g, plans) ∷ []) h ≡ Some found
    → (plans_at memo h ≡ Some found) ⊎ ((g ≡ h) × (plans ≡ found))
plans_at-push_cases [] g h plans found is = by (same_goal h g) refl is
  where
    by : (b : Bool) → same_goal h g ≡ b → option_map (λ (s : GoalSet). s.1) (if b then Some (g, plans) else None) ≡ Some found → (plans_at [] h ≡ Some found) ⊎ ((g ≡ h) × (plans ≡ found))
    by true same is = inr (sym (same_goal-true h g same), cc)
    by false same is = cc
plans_at-push_cases (s ∷ memo) g h plans found is = by (same_goal h s.0) (plans_at-push_cases memo g h plans found) is
  where
    by : (b : Bool) → (plans_at (memo ++ (g, plans) ∷ []) h ≡ Some found → (plans_at memo h ≡ Some found) ⊎ ((g ≡ h) × (plans ≡ found)))
        → option_map (λ (s : GoalSet). s.1) (if b then Some s else find (λ (s : GoalSet). same_goal h s.0) (memo ++ (g, plans) ∷ [])) ≡ Some found
        → (option_map (λ (s : GoalSet). s.1) (if b then Some s else find (λ (s : GoalSet). same_goal h s.0) memo) ≡ Some found) ⊎ ((g ≡ h) × (plans ≡ found))
    by true later is = inl is
    by false later is = later is

-- ---- removals

others_stay : (g : Goal) (memo : List GoalSet) → AllByRecursion (λ h. same_goal g h ≡ false) (goals_of memo) → filter (λ s. not (same_goal g s.0)) memo ≡ memo
others_stay g [] none = refl
others_stay g (s ∷ memo) none = (λ i. cond (not (none.0 i)) (s ∷ others_stay g memo none.1 i) (filter (λ (s : GoalSet). not (same_goal g s.0)) memo))

pub removed_others : (g : Goal) (memo : List GoalSet) → IsDistinct same_goal (goals_of memo) → remove_entry (same_goal g) memo ≡ filter (λ s. not (same_goal g s.0)) memo
removed_others g [] once = refl
removed_others g (s ∷ memo) once = by (same_goal g s.0) refl (removed_others g memo (IsDistinct-tail same_goal s.0 (goals_of memo) once))
  where
    by : (b : Bool) → same_goal g s.0 ≡ b → remove_entry (same_goal g) memo ≡ filter (λ (s : GoalSet). not (same_goal g s.0)) memo
        → cond b memo (s ∷ remove_entry (same_goal g) memo) ≡ cond (not b) (s ∷ filter (λ (s : GoalSet). not (same_goal g s.0)) memo) (filter (λ (s : GoalSet). not (same_goal g s.0)) memo)
    by true same later =
        let none : AllByRecursion (λ h. same_goal g h ≡ false) (goals_of memo) =
        subst (λ (k : Goal). AllByRecursion (λ h. same_goal k h ≡ false) (goals_of memo)) (sym (same_goal-true g s.0 same)) (IsDistinct-head same_goal s.0 (goals_of memo) once) in
        sym (others_stay g memo none)
    by false same later = ap (λ rest. s ∷ rest) later
