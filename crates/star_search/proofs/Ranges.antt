-- A loop over the members of a for-all name's range.
use Rattle.std.proofs.Common.{◌≡◌, ℕ, ◌+◌, List, [], ◌∷◌, ◌++◌, refl, ap, sym, ◌∙◌, subst, map, arith, append_assoc}
use Prim.Native.Nat.{zero, suc}
use Rattle.star_model.specs.Meaning.{numbers_of, member_at}
use Rattle.star_model.specs.declared.query.Query.{Query}
use Rattle.star_model.specs.declared.rules.Alternative.{Alternative}
use Rattle.star_model.specs.declared.rules.ForAll.{ForAll}
use Rattle.star_model.specs.declared.rules.Range.{Range}
use Rattle.star_model.specs.declared.rules.RuleFile.{RuleFile}
use Rattle.star_model.specs.declared.values.RuleValue.{RuleValue}
use Rattle.dominance_prune.specs.Gathering.{Gathers, From, Passes}
use Rattle.dominance_prune.specs.GatheringCases.{Gathers-more, Gathers-same, Passes-all}
use Rattle.lolepop.specs.Derived.{DerivedPlan, is_better_plan}
use Rattle.exchange.specs.Places.{RangesWay}
use Rattle.exchange.proofs.Laws.{ranges_exchange}

-- one item more was seen
pub one_more : {S : Type 0} (members seen : List S) (item : S) (left later : List S) (a b c : List DerivedPlan) (P : S → DerivedPlan → Type 0) → left ≡ item ∷ later → Passes is_better_plan members seen left a b P
    → Gathers is_better_plan b c (P item) → Passes is_better_plan members (seen ++ item ∷ []) later a c P
one_more {S} members seen item left later a b c P at passes g = record {
  all = passes.all ∙ ap (λ (xs : List S). seen ++ xs) at ∙ sym (append_assoc seen (item ∷ []) later);
  gathered = Gathers-more is_better_plan P seen item a b c passes.gathered g;
}

-- the members of a range, each with its number
abbrev pub numbered_members : Query → List RuleValue → Range → List (ℕ × RuleValue)
numbered_members q c r = map (λ m. (m, member_at r m)) (numbers_of q c r)

module _ (q : Query) (rules : RuleFile) (star : List ℕ) (n : ℕ) (a : Alternative) (fs : List ForAll) (picked : List ℕ) (c : List RuleValue) where
  -- the alternative makes it, with the next name bound to this member
  abbrev pub NextWay : ℕ × RuleValue → DerivedPlan → Type 0
  NextWay p x = RangesWay q rules star n a fs (picked ++ (p.0 + 1) ∷ []) (c ++ p.1 ∷ []) x

  pub member_more : (f : ForAll) (seen left later : List (ℕ × RuleValue)) (m : ℕ) (v : RuleValue) (numbers : List ℕ) (next : List RuleValue) (old new newer : List DerivedPlan)
      → Passes is_better_plan (numbered_members q c f.range) seen left old new NextWay → left ≡ (m, v) ∷ later → numbers ≡ picked ++ (m + 1) ∷ [] → next ≡ c ++ v ∷ []
      → Gathers is_better_plan new newer (RangesWay q rules star n a fs numbers next) → Passes is_better_plan (numbered_members q c f.range) (seen ++ (m, v) ∷ []) later old newer NextWay
  member_more f seen left later m v numbers next old new newer passes at are_numbers is_next g =
      let step : Gathers is_better_plan new newer (NextWay (m, v)) =
      subst (λ (vs : List RuleValue). Gathers is_better_plan new newer (RangesWay q rules star n a fs (picked ++ (m + 1) ∷ []) vs)) is_next
      (subst (λ (ns : List ℕ). Gathers is_better_plan new newer (RangesWay q rules star n a fs ns next)) are_numbers g) in
      one_more (numbered_members q c f.range) seen (m, v) left later old new newer NextWay at passes step

  -- what members make, each with its number, is what numbers make
  from_numbers : (at : ℕ → RuleValue) (ns : List ℕ) (x : DerivedPlan) → From (map (λ m. (m, at m)) ns) NextWay x → From ns (λ m. NextWay (m, at m)) x
  from_numbers at [] x (p, (k, below, is), way) = let no : ⊥ = omega (arith, below) in absurd no
  from_numbers at (m ∷ ns) x (p, (zero, below, is), way) = (m, (0, omega arith, refl), subst (λ (r : ℕ × RuleValue). NextWay r x) (sym is) way)
  from_numbers at (m ∷ ns) x (p, (suc k, below, is), way) =
      let later = from_numbers at ns x (p, (k, omega (arith, below), is), way) in
      (later.0, (suc later.1.0, (let b = later.1.1 in omega (arith, b)), later.1.2), later.2)

  to_numbers : (at : ℕ → RuleValue) (ns : List ℕ) (x : DerivedPlan) → From ns (λ m. NextWay (m, at m)) x → From (map (λ m. (m, at m)) ns) NextWay x
  to_numbers at [] x (m, (k, below, is), way) = let no : ⊥ = omega (arith, below) in absurd no
  to_numbers at (n ∷ ns) x (m, (zero, below, is), way) = ((n, at n), (0, omega arith, refl), subst (λ (k : ℕ). NextWay (k, at k) x) (sym is) way)
  to_numbers at (n ∷ ns) x (m, (suc k, below, is), way) =
      let later = to_numbers at ns x (m, (k, omega (arith, below), is), way) in
      (later.0, (suc later.1.0, (let b = later.1.1 in omega (arith, b)), later.1.2), later.2)

  -- all were seen
  pub members_done : (f : ForAll) (seen left : List (ℕ × RuleValue)) (old new : List DerivedPlan) → Passes is_better_plan (numbered_members q c f.range) seen left old new NextWay → left ≡ []
      → Gathers is_better_plan old new (RangesWay q rules star n a (f ∷ fs) picked c)
  members_done f seen left old new passes none =
      ranges_exchange q rules star n a f fs picked c old new
      (Gathers-same is_better_plan (From (numbered_members q c f.range) NextWay) (From (numbers_of q c f.range) (λ m. NextWay (m, member_at f.range m))) old new
      (from_numbers (member_at f.range) (numbers_of q c f.range)) (to_numbers (member_at f.range) (numbers_of q c f.range))
      (Passes-all is_better_plan (numbered_members q c f.range) seen left old new NextWay none passes))
