-- A memo that holds what a query asks for has one set for each goal, and in these sets as many plans as vectors are on the goals' frontiers.
use Rattle.std.proofs.Common.{◌≡◌, ℕ, zero, suc, ◌+◌, inl, inr, Bool, true, false, List, [], ◌∷◌, length, map, Option, Some, None, refl, ap, sym, subst, ◌∙◌, arith}
use Rattle.std.specs.Prelude.{Contains, IsSome, is_some, slice_get, take, fold, flat_map, sum_by, cond, nat_eq, ◌&&◌}
use Rattle.std.specs.List.{IsDistinct, find}
use Rattle.std.specs.Option.{option_map}
use Rattle.std.proofs.lemmas.Bool.{and_parts, eqb-true, eq-eqb}
use Rattle.std.proofs.lemmas.List.{length-map}
use Rattle.std.proofs.lemmas.Option.{slice_get_within, get_or_from_slice_get}
use Rattle.std.proofs.lemmas.List.Concat.{length-flat_map}
use Rattle.std.proofs.lemmas.List.Elements.{All-from_recursion, All-contains}
use Rattle.std.proofs.lemmas.Map.Keys.{IsDistinct-head, IsDistinct-tail}
use Rattle.star_model.specs.Expected.{ForGoal}
use Rattle.star_model.specs.declared.plans.Goal.{Goal}
use Rattle.star_model.specs.declared.plans.Props.{Props}
use Rattle.star_model.specs.declared.query.Query.{Query}
use Rattle.star_model.specs.declared.rules.RuleFile.{RuleFile}
use Rattle.lolepop.specs.Derived.{DerivedPlan, vector_of}
use Rattle.table_set_memo.specs.Memos.{GoalSet, same_goal, goals_of, plans_at, IsHeld}
use Rattle.table_set_memo.proofs.Laws.{plans_at-listed}
use Rattle.exchange.specs.Places.{IsBestOf}
use Rattle.exchange.proofs.Laws.{has_frontier, vectors_once}
use Rattle.search_places.specs.Memos.{HoldsFrontiers}
use Rattle.star_expand.specs.Expanding.{HoldsQueryGoals}
use Rattle.workload_runs.specs.Counts.{EachOnce, IsCountOf}
use Rattle.workload_runs.specs.AskedFrontiers.{IsAsked, IsKept}
use Rattle.workload_runs.proofs.ListLaws.{here, further, head_or_further, in_map, from_map, in_flat_map, from_flat_map, nothing_in, once_both, once_mapped}

-- ---- goals

itself : (g : Goal) → same_goal g g ≡ true
itself g = (λ i. eq-eqb g.tables g.tables refl i && eq-eqb g.pushed g.pushed refl i)

same : (g h : Goal) → same_goal g h ≡ true → g ≡ h
same g h is =
    let both = and_parts (nat_eq g.tables h.tables) (nat_eq g.pushed h.pushed) is in
    (λ i. record { tables = eqb-true g.tables h.tables both.0 i; pushed = eqb-true g.pushed h.pushed both.1 i })

abbrev AreApart : List GoalSet → Type 0
AreApart memo = IsDistinct same_goal (goals_of memo)

other_later : (g h : Goal) (goals : List Goal) → IsDistinct same_goal (g ∷ goals) → Contains goals h → same_goal g h ≡ false
other_later g h goals apart in_ =
    let P : Goal → Type 0 = λ x. same_goal g x ≡ false in
    All-contains P goals h (All-from_recursion P goals (IsDistinct-head same_goal g goals apart)) in_

goals_once : (goals : List Goal) → IsDistinct same_goal goals → EachOnce goals
goals_once [] apart = tt
goals_once (g ∷ goals) apart =
    ((λ again. let bad : true ≡ false = sym (itself g) ∙ other_later g g goals apart again in cc), goals_once goals (IsDistinct-tail same_goal g goals apart))

-- each goal of the memo has the set that stands beside it
own_plans : (memo : List GoalSet) → AreApart memo → (g : Goal) (plans : List DerivedPlan) → Contains memo (g, plans) → plans_at memo g ≡ Some plans
own_plans [] apart g plans in_ = absurd (nothing_in (g, plans) in_)
own_plans (t ∷ memo) apart g plans in_ = elim (head_or_further t (g, plans) memo in_) [
  | inl is ↦ first (same_goal g t.0) (ap (λ (s : GoalSet). same_goal g s.0) is ∙ itself g) (ap (λ (s : GoalSet). s.1) is)
  | inr later ↦ (
      let goals = goals_of memo in
      let in_goals : Contains goals g = in_map (λ (s : GoalSet). s.0) memo (g, plans) later in
      let not_first : same_goal t.0 g ≡ false = other_later t.0 g goals apart in_goals in
      then (same_goal g t.0) refl not_first (own_plans memo (IsDistinct-tail same_goal t.0 goals apart) g plans later)
      )
]
  where
    at : Bool → Option (List DerivedPlan)
    at b = option_map (λ (s : GoalSet). s.1) (cond b (Some t) (find (λ (s : GoalSet). same_goal g s.0) memo))

    first : (b : Bool) → b ≡ true → t.1 ≡ plans → at b ≡ Some plans
    first true so is = ap (λ l. Some l) is
    first false so is = cc

    then : (b : Bool) → same_goal g t.0 ≡ b → same_goal t.0 g ≡ false → plans_at memo g ≡ Some plans → at b ≡ Some plans
    then true is other found =
        let bad : true ≡ false = sym (itself g) ∙ (ap (λ (h : Goal). same_goal h g) (same g t.0 is) ∙ other) in
        cc
    then false is other found = found

some_plans : (o : Option (List DerivedPlan)) → IsSome o → (plans : List DerivedPlan) × (o ≡ Some plans)
some_plans None is = cc
some_plans (Some plans) is = (plans, refl)

held_in : (memo : List GoalSet) (g : Goal) → IsHeld memo g → Contains (goals_of memo) g
held_in memo g held =
    let found = some_plans (plans_at memo g) held in
    in_map (λ (s : GoalSet). s.0) memo (g, found.0) (plans_at-listed memo g found.0 found.1)

in_held : (memo : List GoalSet) → AreApart memo → (g : Goal) → Contains (goals_of memo) g → IsHeld memo g
in_held memo apart g in_ =
    let found = from_map (λ (s : GoalSet). s.0) memo g in_ in
    let pair : Contains memo (g, found.0.1) = subst (λ (h : Goal). Contains memo (h, found.0.1)) found.2 found.1 in
    ap (λ (o : Option (List DerivedPlan)). is_some o) (own_plans memo apart g found.0.1 pair)

-- ---- sets by their places

-- the set of the goal at a place is the one that stands there
pub own_set : (memo : List GoalSet) → AreApart memo → (place : ℕ) (g : Goal) → option_map (λ (s : GoalSet). s.0) (slice_get memo place) ≡ Some g
    → (plans : List DerivedPlan) × (plans_at memo g ≡ Some plans) × (slice_get memo place ≡ Some (g, plans))
own_set memo apart place g at = go (slice_get memo place) refl at where
  go : (o : Option GoalSet) → slice_get memo place ≡ o → option_map (λ (s : GoalSet). s.0) o ≡ Some g
      → (plans : List DerivedPlan) × (plans_at memo g ≡ Some plans) × (slice_get memo place ≡ Some (g, plans))
  go None is e = cc
  go (Some s) is e =
      let goal : s.0 ≡ g = cc in
      let here : slice_get memo place ≡ Some (g, s.1) = is ∙ (λ i. Some (goal i, s.1)) in
      let in_memo : Contains memo (g, s.1) = (place, slice_get_within memo place (g, s.1) here, get_or_from_slice_get memo place (g, s.1) (g, s.1) here) in
      (s.1, own_plans memo apart g s.1 in_memo, here)

-- ---- counts

abbrev pub count_of : List GoalSet → ℕ
count_of memo = sum_by (λ s. length s.1) memo

count_from : (n : ℕ) (memo : List GoalSet) → fold (λ a s. a + length s.1) n memo ≡ n + count_of memo
count_from n [] = omega arith
count_from n (s ∷ memo) =
    let all : fold (λ a s. a + length s.1) n (s ∷ memo) ≡ (n + length s.1) + count_of memo = count_from (n + length s.1) memo in
    let own : count_of (s ∷ memo) ≡ (0 + length s.1) + count_of memo = count_from (0 + length s.1) memo in
    omega (arith, all, own)

pub one_set_more : (memo : List GoalSet) (place : ℕ) (plans : ℕ) → option_map (λ (s : GoalSet). length s.1) (slice_get memo place) ≡ Some plans
    → count_of (take (place + 1) memo) ≡ count_of (take place memo) + plans
one_set_more [] place plans at = cc
one_set_more (s ∷ memo) zero plans at = let same : length s.1 ≡ plans = cc in ap (λ n. 0 + n) same
one_set_more (s ∷ memo) (suc place) plans at =
    let rest = one_set_more memo place plans at in
    let next : suc place + 1 ≡ suc (place + 1) = omega arith in
    let all : count_of (take (suc place + 1) (s ∷ memo)) ≡ (0 + length s.1) + count_of (take (place + 1) memo) =
    ap (λ n. count_of (take n (s ∷ memo))) next ∙ count_from (0 + length s.1) (take (place + 1) memo) in
    let before : count_of (take (suc place) (s ∷ memo)) ≡ (0 + length s.1) + count_of (take place memo) = count_from (0 + length s.1) (take place memo) in
    omega (arith, rest, all, before)

-- a goal's set, as the goal with each vector
abbrev kept_of : GoalSet → List (Goal × Props)
kept_of s = map (λ (e : DerivedPlan). (s.0, vector_of e)) s.1

length-kept : (s : GoalSet) → length (kept_of s) ≡ length s.1
length-kept s = length-map s.1 (λ (e : DerivedPlan). (s.0, vector_of e))

module _ (q : Query) (rules : RuleFile) (memo : List GoalSet) (apart : AreApart memo) (goals : HoldsQueryGoals q rules memo) where
  -- as many goals are held as are asked for
  pub goals_counted : IsCountOf (IsAsked q rules) (length memo)
  goals_counted = (
    goals_of memo,
    record {
      members = λ g. ((λ in_. (goals g).0 (in_held memo apart g in_)), (λ asked. held_in memo g ((goals g).1 asked)));
      once = goals_once (goals_of memo) apart;
    },
    sym (length-map memo (λ (s : GoalSet). s.0)),
  )

  module _ (frontiers : HoldsFrontiers q rules memo) where
    best : (s : GoalSet) → Contains memo s → IsBestOf q rules (ForGoal s.0.tables s.0.pushed) s.1
    unfolding HoldsFrontiers
    best s in_ = frontiers s.0 s.1 (own_plans memo apart s.0 s.1 in_)

    is_kept : (k : Goal × Props) → Contains (flat_map kept_of memo) k → IsKept q rules k
    is_kept k in_ =
        let (s, in_memo, own) = from_flat_map kept_of memo k in_ in
        let (e, in_set, same) = from_map (λ (e : DerivedPlan). (s.0, vector_of e)) s.1 k own in
        subst (IsKept q rules) same (
          (goals s.0).0 (in_held memo apart s.0 (in_map (λ (s : GoalSet). s.0) memo s in_memo)),
          (has_frontier q rules s.0.tables s.0.pushed s.1 (best s in_memo) (vector_of e)).0 (e, in_set, refl),
        )

    in_kept : (k : Goal × Props) → IsKept q rules k → Contains (flat_map kept_of memo) k
    in_kept k kept =
        let found = some_plans (plans_at memo k.0) ((goals k.0).1 kept.0) in
        let in_memo = plans_at-listed memo k.0 found.0 found.1 in
        let (e, in_set, same) = (has_frontier q rules k.0.tables k.0.pushed found.0 (best (k.0, found.0) in_memo) k.1).1 kept.1 in
        let own = in_map (λ (e : DerivedPlan). (k.0, vector_of e)) found.0 e in_set in
        in_flat_map kept_of memo (k.0, found.0) k in_memo (subst (λ (v : Props). Contains (kept_of (k.0, found.0)) (k.0, v)) same own)

    -- the first of each pair in a set is the set's goal
    of_goal : (s : GoalSet) (k : Goal × Props) → Contains (kept_of s) k → s.0 ≡ k.0
    of_goal s k in_ = let found = from_map (λ (e : DerivedPlan). (s.0, vector_of e)) s.1 k in_ in ap (λ (p : Goal × Props). p.0) found.2

    own_once : (s : GoalSet) → Contains memo s → EachOnce (kept_of s)
    own_once s in_ =
        once_mapped (λ (e : DerivedPlan). (s.0, vector_of e)) s.1 (λ i j d less within is.
        vectors_once q rules (ForGoal s.0.tables s.0.pushed) s.1 (best s in_) i j d less within (ap (λ (p : Goal × Props). p.1) is))

    all_once : (sets : List GoalSet) → IsDistinct same_goal (goals_of sets) → ((s : GoalSet) → Contains sets s → EachOnce (kept_of s)) → EachOnce (flat_map kept_of sets)
    all_once [] distinct each = tt
    all_once (s ∷ sets) distinct each =
        once_both (kept_of s) (flat_map kept_of sets) (each s (here s sets))
        (all_once sets (IsDistinct-tail same_goal s.0 (goals_of sets) distinct) (λ t in_. each t (further s t sets in_)))
        (λ k own other.
        let found = from_flat_map kept_of sets k other in
        let in_goals = in_map (λ (t : GoalSet). t.0) sets found.0 found.1 in
        let equal : s.0 ≡ found.0.0 = of_goal s k own ∙ sym (of_goal found.0 k found.2) in
        let bad : true ≡ false = sym (itself s.0) ∙ (ap (λ (h : Goal). same_goal s.0 h) equal ∙ other_later s.0 found.0.0 (goals_of sets) distinct in_goals) in
        absurd cc)

    length-all : length (flat_map kept_of memo) ≡ sum_by (λ s. length s.1) memo
    length-all = length-flat_map kept_of memo ∙ (λ i. sum_by (λ s. length-kept s i) memo)

    -- as many plans are in their sets as vectors are on their frontiers
    pub kept_counted : IsCountOf (IsKept q rules) (sum_by (λ s. length s.1) memo)
    kept_counted = (
      flat_map kept_of memo,
      record { members = λ k. (is_kept k, in_kept k); once = all_once memo apart own_once },
      sym length-all,
    )
