-- A loop over the alternatives of a STAR that is called.
use Prim.Native.Nat.{zero, suc}
use Rattle.std.proofs.Common.{◌≡◌, ℕ, ◌+◌, ◌-◌, ◌<◌, ◌≤◌, Bool, ◌⊎◌, inl, inr, List, [], Some, None, refl, ap, sym, ◌∙◌, subst, arith, length, get_or, if◌then◌else◌}
use Rattle.std.specs.Prelude.{option_and_then, slice_get}
use Rattle.std.proofs.lemmas.Bool.{ne_eqb}
use Rattle.std.proofs.lemmas.Option.{slice_get_within, slice_get_read}
use Rattle.star_model.specs.Accepted.{IsAccepted}
use Rattle.star_model.specs.Expected.{Call}
use Rattle.star_model.specs.Goals.{IsGoal}
use Rattle.star_model.specs.Stars.{star_named, numbered, alternative_of}
use Rattle.star_model.specs.declared.query.Query.{Query}
use Rattle.star_model.specs.declared.rules.Alternative.{Alternative}
use Rattle.star_model.specs.declared.rules.ForAll.{ForAll}
use Rattle.star_model.specs.declared.rules.RuleFile.{RuleFile}
use Rattle.star_model.specs.declared.rules.StarDef.{StarDef}
use Rattle.star_model.specs.declared.values.RuleValue.{RuleValue}
use Rattle.dominance_prune.specs.Antichains.{IsAntichain}
use Rattle.dominance_prune.specs.Gathering.{Gathers}
use Rattle.dominance_prune.specs.GatheringCases.{Gathers-then, Gathers-same, Gathers-nothing}
use Rattle.lolepop.specs.Derived.{DerivedPlan, is_better_plan}
use Rattle.exchange.specs.Places.{IsDerived, IsBestOf, RangesWay}
use Rattle.star_model.specs.WellFormedRules.{WellFormedRules}
use Rattle.exchange.proofs.Laws.{call_exchange}
use Rattle.search_places.specs.declared.search.Search.{Search}
use Rattle.search_places.specs.Searching.{LeadsTo, IsWithin}
use Rattle.search_places.proofs.Laws.{to_alternative}

item_at : (items : List Alternative) (i : ℕ) (a : Alternative) → i < length items → a ≡ get_or items i a → slice_get items i ≡ Some a
item_at items i a below is = slice_get_read items (length items) i a refl below is

-- the next alternative of a STAR that is called, of which nothing is bound yet
pub next_alternative : (s : Search) (star : List ℕ) (b : List RuleValue) (d : StarDef) (items : List Alternative) (i : ℕ) (a : Alternative) (ranges : List ForAll) (none : List ℕ) → WellFormedRules s.rules.now
    → IsAccepted s.rules.now → IsGoal s.query.now s.goal.tables s.goal.pushed → LeadsTo s (Call star b) → Some d ≡ star_named s.rules.now star → items ≡ d.alternatives → i < length items → a ≡ get_or items i a
    → ranges ≡ a.ranges → none ≡ [] → IsWithin s star (i + 1) a ranges none b
next_alternative s star b d items i a ranges none formed accepted goal leads named are within is same empty =
    let at : slice_get d.alternatives i ≡ Some a = ap (λ (xs : List Alternative). slice_get xs i) (sym are) ∙ item_at items i a within is in
    subst (λ (ns : List ℕ). IsWithin s star (i + 1) a ranges ns b) (sym empty)
    (subst (λ (fs : List ForAll). IsWithin s star (i + 1) a fs [] b) (sym same) (to_alternative s star b d i a formed accepted goal leads (sym named) at))

module _ (q : Query) (rules : RuleFile) (star : List ℕ) (b : List RuleValue) where
  -- one of the first so many alternatives makes it
  abbrev pub FirstWays : List Alternative → ℕ → DerivedPlan → Type 0
  FirstWays alternatives count x = (i : ℕ) × (a : Alternative) × (i < count) × (slice_get alternatives i ≡ Some a) × RangesWay q rules star (i + 1) a a.ranges [] b x

  pub none_seen : (alternatives : List Alternative) → Gathers is_better_plan [] [] (FirstWays alternatives 0)
  none_seen alternatives = Gathers-nothing is_better_plan (FirstWays alternatives 0) [] (λ x way. let below = way.2 in let no : ⊥ = omega (arith, below) in no)

  pub one_seen : (alternatives : List Alternative) (i : ℕ) (a : Alternative) (ranges : List ForAll) (none : List ℕ) (new newer : List DerivedPlan) → i < length alternatives → a ≡ get_or alternatives i a → ranges ≡ a.ranges
      → none ≡ [] → Gathers is_better_plan [] new (FirstWays alternatives i) → Gathers is_better_plan new newer (RangesWay q rules star (i + 1) a ranges none b)
      → Gathers is_better_plan [] newer (FirstWays alternatives (i + 1))
  one_seen alternatives i a ranges none new newer within is are empty g h =
      Gathers-same is_better_plan (λ x. FirstWays alternatives i x ⊎ RangesWay q rules star (i + 1) a a.ranges [] b x) (FirstWays alternatives (i + 1)) [] newer to back
      (Gathers-then is_better_plan (FirstWays alternatives i) (RangesWay q rules star (i + 1) a a.ranges [] b) [] new newer g own)
    where
      at : slice_get alternatives i ≡ Some a
      at = item_at alternatives i a within is

      own : Gathers is_better_plan new newer (RangesWay q rules star (i + 1) a a.ranges [] b)
      own =
          subst (λ (ns : List ℕ). Gathers is_better_plan new newer (RangesWay q rules star (i + 1) a a.ranges ns b)) empty
          (subst (λ (fs : List ForAll). Gathers is_better_plan new newer (RangesWay q rules star (i + 1) a fs none b)) are h)

      to : (x : DerivedPlan) → FirstWays alternatives i x ⊎ RangesWay q rules star (i + 1) a a.ranges [] b x → FirstWays alternatives (i + 1) x
      to x (inl (k, o, below, there, way)) = (k, o, omega (arith, below), there, way)
      to x (inr way) = (i, a, omega arith, at, way)

      last_or_not : (k : ℕ) → k < i + 1 → (k < i) ⊎ (k ≡ i)
      last_or_not k below = grind arith

      back : (x : DerivedPlan) → FirstWays alternatives (i + 1) x → FirstWays alternatives i x ⊎ RangesWay q rules star (i + 1) a a.ranges [] b x
      back x (k, o, below, there, way) = which (last_or_not k below)
        where
          which : (k < i) ⊎ (k ≡ i) → FirstWays alternatives i x ⊎ RangesWay q rules star (i + 1) a a.ranges [] b x
          which (inl less) = inl (k, o, less, there, way)
          which (inr same) =
              let one : Some o ≡ Some a = sym there ∙ ap (slice_get alternatives) same ∙ at in
              let is : o ≡ a = cc in
              inr (subst (λ (u : Alternative). RangesWay q rules star (i + 1) u u.ranges [] b x) is (subst (λ (m : ℕ). RangesWay q rules star (m + 1) o o.ranges [] b x) same way))

  -- of an alternative of the STAR that has the name, its place
  placed : (d : StarDef) → star_named rules star ≡ Some d → (n : ℕ) (a : Alternative) → alternative_of rules star n ≡ Some a → (i : ℕ) × (n ≡ i + 1) × (slice_get d.alternatives i ≡ Some a)
  placed d named zero a found = absurd (none_is (sym (ap (option_and_then (λ (s : StarDef). numbered s.alternatives zero)) named) ∙ found))
    where
      none_is : None ≡ Some a → ⊥
      none_is h = cc
  placed d named (suc i) a found =
      let here : numbered d.alternatives (suc i) ≡ Some a = sym (ap (option_and_then (λ (s : StarDef). numbered s.alternatives (suc i))) named) ∙ found in
      let back : suc i - 1 ≡ i = omega arith in (
        i,
        omega arith,
        ap (slice_get d.alternatives) (sym back)
            ∙ ap (λ (t : Bool). if t then None else slice_get d.alternatives (suc i - 1)) (sym (ne_eqb (suc i) 0 (λ h. let no : ⊥ = omega (arith, h) in no))) ∙ here,
      )

  there_is : (d : StarDef) → star_named rules star ≡ Some d → (i : ℕ) (a : Alternative) → slice_get d.alternatives i ≡ Some a → alternative_of rules star (i + 1) ≡ Some a
  there_is d named i a at =
      let back : i + 1 - 1 ≡ i = omega arith in
      ap (option_and_then (λ (s : StarDef). numbered s.alternatives (i + 1))) named
      ∙ ap (λ (t : Bool). if t then None else slice_get d.alternatives (i + 1 - 1)) (ne_eqb (i + 1) 0 (λ h. let no : ⊥ = omega (arith, h) in no))
      ∙ ap (slice_get d.alternatives) back ∙ at

  -- some alternative of the STAR makes it
  abbrev Ways : DerivedPlan → Type 0
  Ways x = (n : ℕ) × (a : Alternative) × (alternative_of rules star n ≡ Some a) × RangesWay q rules star n a a.ranges [] b x

  -- all were seen
  pub all_seen : (d : StarDef) (items : List Alternative) (count : ℕ) (out set : List DerivedPlan) → Some d ≡ star_named rules star → items ≡ d.alternatives → length items ≤ count
      → Gathers is_better_plan [] out (FirstWays items count) → set ≡ out → IsAntichain is_better_plan set → IsBestOf q rules (Call star b) set
  all_seen d items count out set named are enough g same apart = record {
    gathered = call_exchange q rules star b [] set (Gathers-same is_better_plan (FirstWays items count) Ways [] set to back (subst (λ (s : List DerivedPlan). Gathers is_better_plan [] s (FirstWays items count)) (sym same) g));
    apart = apart;
  }
    where
      to : (x : DerivedPlan) → FirstWays items count x → Ways x
      to x (i, a, below, at, way) = (i + 1, a, there_is d (sym named) i a (ap (λ (xs : List Alternative). slice_get xs i) (sym are) ∙ at), way)

      back : (x : DerivedPlan) → Ways x → FirstWays items count x
      back x (n, a, found, way) =
          let p = placed d (sym named) n a found in
          let at : slice_get items p.0 ≡ Some a = ap (λ (xs : List Alternative). slice_get xs p.0) are ∙ p.2 in
          let within = slice_get_within items p.0 a at in
          (p.0, a, omega (arith, within, enough), at, subst (λ (m : ℕ). RangesWay q rules star m a a.ranges [] b x) p.1 way)

  -- there is no such STAR
  pub none_called : (out set : List DerivedPlan) → star_named rules star ≡ None → out ≡ [] → set ≡ out → IsAntichain is_better_plan set → IsBestOf q rules (Call star b) set
  none_called out set unnamed empty same apart = record {
    gathered = subst (λ (s : List DerivedPlan). Gathers is_better_plan [] s (IsDerived q rules (Call star b))) (sym (same ∙ empty))
        (call_exchange q rules star b [] [] (Gathers-nothing is_better_plan Ways [] never));
    apart = apart;
  }
    where
      never : (x : DerivedPlan) → Ways x → ⊥
      never x (n, a, found, way) = none_is (sym (ap (option_and_then (λ (s : StarDef). numbered s.alternatives n)) unnamed) ∙ found)
        where
          none_is : None ≡ Some a → ⊥
          none_is h = cc
