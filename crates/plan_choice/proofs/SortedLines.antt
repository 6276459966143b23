-- The sorted vectors of a set of what is best for the query's goal are the list of its frontier.
use Rattle.std.proofs.Common.{◌≡◌, ℕ, ◌<◌, Bool, true, false, List, [], ◌∷◌, length, get_or, map, refl, sym, ap, subst, ◌∙◌, arith}
use Rattle.std.specs.Prelude.{Contains, AllPairs, Result, Ok, Err, IfOk}
use Rattle.std.specs.declared.alloc.AllocError.{AllocError}
use Rattle.std.specs.List.Sorted.{IsPermutation, IsSortedBy}
use Rattle.std.specs.Ordering.{is_lt, is_eq, ordering_reverse}
use Rattle.std.specs.declared.cmp.Ordering.{Ordering}
use Rattle.std.specs.declared.cmp.Ordering.TheVariants.{Less, Equal, Greater}
use Rattle.std.proofs.lemmas.List.{get_or-map, length-map, get_or_default}
use Rattle.std.proofs.lemmas.List.Elements.{Contains-get_or}
use Rattle.std.proofs.lemmas.List.Sorted.{ranks_by, sorted_far, Contains-permutation, IsPermutation-sym}
use Rattle.std.proofs.lemmas.Map.Keys.{IsDistinct-from_apart, IsDistinct-IsPermutation, apart_from_distinct}
use Rattle.star_model.specs.Cardinality.{card}
use Rattle.star_model.specs.Expected.{ForGoal, query_goal}
use Rattle.star_model.specs.Predicates.{all_quants}
use Rattle.star_model.specs.Vectors.{is_better}
use Rattle.star_model.specs.declared.plans.Props.{Props}
use Rattle.star_model.specs.declared.query.Query.{Query}
use Rattle.star_model.specs.declared.rules.RuleFile.{RuleFile}
use Rattle.lolepop.specs.Derived.{DerivedPlan, vector_of}
use Rattle.exchange.specs.Places.{IsDerived, IsBestOf}
use Rattle.exchange.proofs.Laws.{has_card, has_frontier, vectors_once, best_derived, best_above, plan_of_vector}
use Rattle.plan_choice.specs.LineOrder.{line_cmp}
use Rattle.plan_choice.specs.FrontierLists.{IsFrontierList}
use Rattle.plan_choice.proofs.Targets.{has_target, relation}
use Rattle.plan_choice.proofs.LineOrderLaws.{line_total, equal_line}

-- ---- lists of what a function gives

module _ {X Y : Type 0} (f : X → Y) where
  contains_made : (xs : List X) (x : X) → Contains xs x → Contains (map f xs) (f x)
  contains_made xs x (k, within, at) = (k, omega (arith, within, length-map xs f), get_or-map f xs k x (f x) within ∙ ap f at)

  made_from : (xs : List X) (y : Y) → Contains (map f xs) y → (x : X) × Contains xs x × (f x ≡ y)
  made_from [] y (k, within, at) = absurd (let no : ⊥ = omega (arith, within) in no)
  made_from (x ∷ xs) y (k, within, at) =
      let below : k < length (x ∷ xs) = omega (arith, within, length-map (x ∷ xs) f) in
      (get_or (x ∷ xs) k x, (k, below, at_itself x (x ∷ xs) k below), sym (get_or-map f (x ∷ xs) k x y below) ∙ at)
    where
      at_itself : (x : X) (xs : List X) (k : ℕ) → k < length xs → get_or xs k (get_or xs k x) ≡ get_or xs k x
      at_itself x xs k below = get_or_default xs k (get_or xs k x) x below

  pairs_made : (R : Y → Y → Type 0) (xs : List X) → AllPairs (λ x y. R (f x) (f y)) xs → AllPairs R (map f xs)
  pairs_made R [] pairs i j d before within = absurd (let no : ⊥ = omega (arith, within) in no)
  pairs_made R (x ∷ xs) pairs i j d before within =
      let second : j < length (x ∷ xs) = omega (arith, within, length-map (x ∷ xs) f) in
      let first : i < length (x ∷ xs) = omega (arith, before, second) in
      subst (λ (y : Y). R y (get_or (map f (x ∷ xs)) j d)) (sym (get_or-map f (x ∷ xs) i x d first))
      (subst (λ (y : Y). R (f (get_or (x ∷ xs) i x)) y) (sym (get_or-map f (x ∷ xs) j x d second)) (pairs i j x before second))

-- ---- lines that rise

abbrev same_line : Props → Props → Bool
same_line v w = is_eq (line_cmp v w)

abbrev lower_line : Props → Props → Bool
lower_line v w = is_lt (line_cmp v w)

is_equal : (o : Ordering) → is_eq o ≡ true → o ≡ Equal
is_equal Less h = absurd cc
is_equal Equal h = refl
is_equal Greater h = absurd cc

never_true : (b : Bool) → (b ≡ true → ⊥) → b ≡ false
never_true true h = absurd (h refl)
never_true false h = refl

reverse_equal : (o : Ordering) → is_eq (ordering_reverse o) ≡ is_eq o
reverse_equal Less = refl
reverse_equal Equal = refl
reverse_equal Greater = refl

is_less : (o : Ordering) → is_lt (ordering_reverse o) ≡ false → is_eq o ≡ false → o ≡ Less
is_less Less up apart = refl
is_less Equal up apart = absurd cc
is_less Greater up apart = absurd cc

line_turns : (v w : Props) → same_line v w ≡ same_line w v
line_turns v w = ap is_eq (line_total.antisymm v w) ∙ reverse_equal (line_cmp w v)

-- vectors of which no two have one line rise once they are sorted
rises : (vs ws : List Props) → AllPairs (λ v w. same_line v w ≡ false) vs → IsPermutation vs ws → IsSortedBy lower_line ws → AllPairs (λ v w. line_cmp v w ≡ Less) ws
rises vs ws apart moved sorted i j d before within =
    let v = get_or ws i d in
    let w = get_or ws j d in
    let differ = IsDistinct-IsPermutation same_line line_turns vs ws moved (IsDistinct-from_apart same_line vs apart) in
    let up = sorted_far lower_line (ranks_by line_total (λ (v : Props). v)) ws sorted i j d (omega (arith, before)) within in
    is_less (line_cmp v w) (ap is_lt (sym (line_total.antisymm w v)) ∙ up) (apart_from_distinct same_line ws i j d differ before within)

-- ---- the frontier

module _ (q : Query) (rules : RuleFile) where
  -- two plans of one goal with one line have one vector
  one_line : (s j : ℕ) (e f : DerivedPlan) → IsDerived q rules (ForGoal s j) e → IsDerived q rules (ForGoal s j) f → line_cmp (vector_of e) (vector_of f) ≡ Equal → vector_of e ≡ vector_of f
  one_line s j e f there here equal =
      let a = relation q s j (vector_of e) (has_target q rules s j e there) in
      let b = relation q s j (vector_of f) (has_target q rules s j f here) in
      let tables = a.tables ∙ sym b.tables in
      let preds = a.preds ∙ sym b.preds in
      let rows = has_card q rules (ForGoal s j) e there ∙ (λ i. card q (tables i) (preds i)) ∙ sym (has_card q rules (ForGoal s j) f here) in
      equal_line (vector_of e) (vector_of f) tables (a.cols ∙ sym b.cols) preds rows equal

  lines_differ : (s j : ℕ) (plans : List DerivedPlan) → IsBestOf q rules (ForGoal s j) plans → AllPairs (λ v w. same_line v w ≡ false) (map vector_of plans)
  lines_differ s j plans best = pairs_made vector_of (λ v w. same_line v w ≡ false) plans differ
    where
      differ : AllPairs (λ e f. same_line (vector_of e) (vector_of f) ≡ false) plans
      differ i k d before within =
          never_true (same_line (vector_of (get_or plans i d)) (vector_of (get_or plans k d))) (λ same.
          vectors_once q rules (ForGoal s j) plans best i k d before within
          (one_line s j (get_or plans i d) (get_or plans k d) (there i (omega (arith, before, within))) (there k within) (is_equal _ same)))
        where
          there : (n : ℕ) → n < length plans → IsDerived q rules (ForGoal s j) (get_or plans n d)
          there n below = best_derived q rules (ForGoal s j) plans best (get_or plans n d) (Contains-get_or plans n d below)

  pub sorted_is_list : (plans : List DerivedPlan) (list : List Props) → IsPermutation (map vector_of plans) list → IsSortedBy lower_line list → IsBestOf q rules (query_goal q) plans
      → IsFrontierList q rules list
  sorted_is_list plans list moved sorted best = record {
    vectors = λ v. (
      (λ has. (has_frontier q rules (all_quants q) 0 plans best v).0 (made_from vector_of plans v (Contains-permutation list (map vector_of plans) v (IsPermutation-sym (map vector_of plans) list moved) has))),
      (λ on.
          let m = (has_frontier q rules (all_quants q) 0 plans best v).1 on in
          Contains-permutation (map vector_of plans) list v moved (subst (Contains (map vector_of plans)) m.2 (contains_made vector_of plans m.0 m.1))),
    );
    above = λ v of.
        let e = plan_of_vector q rules (query_goal q) of.0 v of.1 in
        let m = best_above q rules (query_goal q) plans best e.0 e.1 in
        let (k, within, at) = Contains-permutation (map vector_of plans) list (vector_of m.0) moved (contains_made vector_of plans m.0 m.1) in
        (k, vector_of m.0, within, at, ap (is_better (vector_of m.0)) (sym e.2) ∙ m.2);
    rising = rises (map vector_of plans) list (lines_differ (all_quants q) 0 plans best) moved sorted;
  }

pub listed : (plans : List DerivedPlan) (vectors sorted : List Props) (result : Result (List Props) AllocError) → vectors ≡ map vector_of plans → IsPermutation vectors sorted
    → IsSortedBy (λ v w. is_lt (line_cmp v w)) sorted → IfOk result (λ list. list ≡ sorted)
    → IfOk result (λ list. (q : Query) (rules : RuleFile) → IsBestOf q rules (query_goal q) plans → IsFrontierList q rules list)
listed plans vectors sorted (Ok list) are moved ascends is = λ q rules best.
    subst (IsFrontierList q rules) (sym is) (sorted_is_list q rules plans sorted (subst (λ (vs : List Props). IsPermutation vs sorted) are moved) ascends best)
listed plans vectors sorted (Err e) are moved ascends is = is
