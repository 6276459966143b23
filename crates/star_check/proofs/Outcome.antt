-- Each rule file is accepted, or there is a fault by which it is refused.
use Prim.Native.Nat.{zero, suc}
use Rattle.std.proofs.Common.{◌≡◌, ℕ, ◌≤◌, ◌↔◌, ◌⊎◌, inl, inr, Bool, true, false, ◌&&◌, ◌||◌, if◌then◌else◌, nat_eq, nat_lt, List, length, map, refl, ap, sym, ◌∙◌, arith}
use Rattle.std.specs.Prelude.{Option, Some, None, slice_get, slice_index, position, Contains, codes, is_some}
use Rattle.std.specs.List.{find}
use Rattle.std.specs.Option.{option_map, option_map_or}
use Rattle.std.proofs.Math.Bool.{or-true, or-false}
use Rattle.std.proofs.lemmas.Bool.{eq-eqb, ne_eqb, cases_eq, cases_lt, lt-ltb, le-ltb, and_parts, or_cases}
use Rattle.std.proofs.lemmas.List.{length-map}
use Rattle.std.proofs.lemmas.Option.{same_Some, slice_get-map, slice_get-get_or, slice_get_past, get_or_from_slice_get, none-some}
use Rattle.star_model.specs.Sets.{has, union, single}
use Rattle.star_model.specs.Stars.{star_named}
use Rattle.star_model.specs.Vectors.{same_numbers}
use Rattle.star_model.specs.Monotone.{first_offending}
use Rattle.star_model.specs.Accepted.{Never, OfStar, OfStarTest, Unknown, Twice, WrongArity, WrongKind, InCycle, GlueInAccess, NotMonotone, TooTall, TooWide, is_unknown, has_wrong_arity, has_wrong_kind, IsInCycle, HasGlueInAccess, Reaches, lacks_root, lacks_formula, height_of, weight_of, IsAccepted, IsRefusedBy}
use Rattle.star_model.proofs.Laws.{has-zero, has-union, has-single}
use Rattle.star_model.specs.declared.faults.Root.{Root}
use Rattle.star_model.specs.declared.faults.Root.TheVariants as root
use Rattle.star_model.specs.declared.faults.RuleFault.{RuleFault}
use Rattle.star_model.specs.declared.faults.RuleFault.TheVariants as fault
use Rattle.star_model.specs.declared.rules.Flavour.{Flavour}
use Rattle.star_model.specs.declared.rules.StarDef.{StarDef}
use Rattle.star_model.specs.declared.rules.FormulaDef.{FormulaDef}
use Rattle.star_model.specs.declared.rules.RuleFile.{RuleFile}
use Rattle.star_model.specs.WellFormedRules.{WellFormedRules}
use Rattle.star_model.specs.Costs.{flavours}
use Rattle.star_check.specs.FileFaults.{IsMissingFormula}
use Rattle.star_check.specs.FirstStatements.{FirstOrNever, first_star, first_formula, first_twice}
use Rattle.star_check.specs.Owning.{NamesAreOwn}
use Rattle.star_check.specs.Passing.{NamesPass, ReferencesPass, FormulasPass}
use Rattle.star_check.specs.Reaching.{refers, refers_to, joined_below, AreDirect, AreReached}
use Rattle.star_check.specs.CycleFaults.{access_row, has_glue}
use Rattle.star_check.proofs.Formulas.{missing}
use Rattle.star_check.proofs.Glues.{access_where, glue_where}
use Rattle.star_check.proofs.Orders.{star_case, twice_case, formula_case, offends_at, passed_1, passed_2, passed_3, passed_4, passed_5, passed_6, passed_7, passed_8, passed_9, passed_10}
use Rattle.star_check.proofs.Owned.{names_are_own}
use Rattle.star_check.proofs.Places.{Place, place}
use Rattle.star_check.proofs.Reached.{closes}

-- ---- rows of the STARs' own references

row_of_test : (ℕ → Bool) → ℕ → ℕ
row_of_test p zero = 0
row_of_test p (suc n) = if p n then union (row_of_test p n) (single n) else row_of_test p n

has_row : (p : ℕ → Bool) (n k : ℕ) → has (row_of_test p n) k ≡ (nat_lt k n && p k)
unfolding row_of_test
has_row p zero k = has-zero k ∙ sym (ap (λ b. b && p k) (le-ltb k 0 (omega arith)))
has_row p (suc n) k = step (p n) refl ∙ ap (λ b. b || (p n && nat_eq k n)) (has_row p n k) ∙ turn
  where
    step : (b : Bool) → p n ≡ b → has (if b then union (row_of_test p n) (single n) else row_of_test p n) k ≡ (has (row_of_test p n) k || (b && nat_eq k n))
    step true is = has-union (row_of_test p n) (single n) k ∙ ap (λ b. has (row_of_test p n) k || b) (has-single n k)
    step false is = sym (or-false (has (row_of_test p n) k))

    turn : ((nat_lt k n && p k) || (p n && nat_eq k n)) ≡ (nat_lt k (suc n) && p k)
    turn =
        elim (cases_eq k n) [
          | inl e ↦
              (λ i. (le-ltb k n (omega (arith, e)) i && p k) || (p n && eq-eqb k n e i)) ∙ and_true (p n) ∙ ap p (sym e)
              ∙ sym (ap (λ b. b && p k) (lt-ltb k (suc n) (omega (arith, e))))
          | inr ne ↦
              let same : nat_lt k n ≡ nat_lt k (suc n) =
              elim (cases_lt k n)
              [ inl lt ↦ lt-ltb k n lt ∙ sym (lt-ltb k (suc n) (omega (arith, lt))) | inr ge ↦ le-ltb k n ge ∙ sym (le-ltb k (suc n) (omega (arith, ge, ne))) ] in
              (λ i. (same i && p k) || (p n && ne_eqb k n ne i)) ∙ ap (λ b. (nat_lt k (suc n) && p k) || b) (and_false (p n)) ∙ or-false (nat_lt k (suc n) && p k)
        ]
      where
        and_true : (b : Bool) → (b && true) ≡ b
        and_true true = refl
        and_true false = refl

        and_false : (b : Bool) → (b && false) ≡ false
        and_false true = refl
        and_false false = refl

own_rows : List StarDef → List ℕ
own_rows stars = map (λ s. row_of_test (refers_to stars s) (length stars)) stars

are_direct : (stars : List StarDef) → AreDirect stars (own_rows stars)
unfolding own_rows
are_direct stars = record {
  long = length-map stars (λ s. row_of_test (refers_to stars s) (length stars));
  refer = λ i j s at.
      let row : slice_index (own_rows stars) i ≡ row_of_test (refers_to stars s) (length stars) =
      get_or_from_slice_get
      (own_rows stars)
      i
      (row_of_test (refers_to stars s) (length stars))
      0
      (slice_get-map (λ t. row_of_test (refers_to stars t) (length stars)) stars i ∙ ap (option_map (λ t. row_of_test (refers_to stars t) (length stars))) at) in
      ap (λ r. has r j) row ∙ has_row (refers_to stars s) (length stars) j ∙ all (refers_to stars s) j (λ past. ap (λ o. option_map_or (λ t. refers s t.name) o false) (slice_get_past stars j past));
}
  where
    all : (p : ℕ → Bool) (j : ℕ) → (length stars ≤ j → p j ≡ false) → (nat_lt j (length stars) && p j) ≡ p j
    all p j past =
        elim (cases_lt j (length stars))
        [ inl lt ↦ ap (λ b. b && p j) (lt-ltb j (length stars) lt) | inr ge ↦ ap (λ b. b && p j) (le-ltb j (length stars) ge) ∙ sym (past ge) ]

-- ---- tests of STARs by their positions

test_at : RuleFile → (ℕ → Bool) → StarDef → Bool
test_at rules p s = option_map_or p (position (λ t. same_numbers t.name s.name) rules.stars) false

tells : (rules : RuleFile) (p : ℕ → Bool) (Case : StarDef → Type 0) → NamesAreOwn rules → ((i : ℕ) (s : StarDef) → slice_get rules.stars i ≡ Some s → (p i ≡ true) ↔ Case s)
    → (s : StarDef) → Contains rules.stars s → (test_at rules p s ≡ true) ↔ Case s
unfolding test_at
tells rules p Case own agrees s has_s = from (place (λ t. same_numbers t.name s.name) rules.stars)
  where
    named : star_named rules s.name ≡ Some s
    named = own.own has_s.0 s (slice_get-get_or rules.stars has_s.0 s has_s.1 ∙ ap Some has_s.2)

    from : Place (λ (t : StarDef). same_numbers t.name s.name) rules.stars → (option_map_or p (position (λ t. same_numbers t.name s.name) rules.stars) false ≡ true) ↔ Case s
    from (Place.nowhere is none) = absurd (none-some s (sym none ∙ named))
    from (Place.stands i t is at found) =
        let same : t ≡ s = same_Some t s (sym found ∙ named) in
        let agree = agrees i s (at ∙ ap Some same) in
        let test : option_map_or p (position (λ t. same_numbers t.name s.name) rules.stars) false ≡ p i = ap (λ o. option_map_or p o false) is in
        ((λ h. agree.0 (sym test ∙ h)), (λ c. test ∙ agree.1 c))

-- the first STAR with a case that a test tells
first_told : (rules : RuleFile) (test : StarDef → Bool) (Case : StarDef → Type 0) → ((s : StarDef) → Contains rules.stars s → (test s ≡ true) ↔ Case s)
    → FirstOrNever rules (OfStar rules Case) (first_star test rules.stars)
first_told rules test Case told = from (first_star test rules.stars) (star_case rules test (first_star test rules.stars) refl)
  where
    from : (r : Option ℕ) → FirstOrNever rules (OfStarTest rules test) r → FirstOrNever rules (OfStar rules Case) r
    from None never = λ k case. never k (case.0, case.1, case.2, (told case.0 case.1).1 case.3)
    from (Some k) first = (
      (first.0.0, first.0.1, first.0.2, (told first.0.0 first.0.1).0 first.0.3),
      (λ j case. first.1 j (case.0, case.1, case.2, (told case.0 case.1).1 case.3)),
    )

glue_told : (rules : RuleFile) (rows : List ℕ) → NamesAreOwn rules → AreReached rules rows → (s : StarDef) → Contains rules.stars s
    → (((same_numbers s.name (codes "AccessRoot") || test_at rules (has (access_row rules.stars rows)) s) && has_glue s.alternatives) ≡ true) ↔ HasGlueInAccess rules s
glue_told rules rows own reached s has_s = (to, from)
  where
    told : (test_at rules (has (access_row rules.stars rows)) s ≡ true) ↔ Reaches rules (codes "AccessRoot") s.name
    told = tells rules (has (access_row rules.stars rows)) (λ t. Reaches rules (codes "AccessRoot") t.name) own (λ i t at. access_where rules rows i t reached at) s has_s

    to : ((same_numbers s.name (codes "AccessRoot") || test_at rules (has (access_row rules.stars rows)) s) && has_glue s.alternatives) ≡ true → HasGlueInAccess rules s
    to h =
        let parts = and_parts (same_numbers s.name (codes "AccessRoot") || test_at rules (has (access_row rules.stars rows)) s) (has_glue s.alternatives) h in (
          elim (or_cases (same_numbers s.name (codes "AccessRoot")) (test_at rules (has (access_row rules.stars rows)) s) parts.0) [ inl r ↦ inl r | inr r ↦ inr (told.0 r) ],
          glue_where s.alternatives ∙ parts.1,
        )

    in_access : (same_numbers s.name (codes "AccessRoot") ≡ true) ⊎ Reaches rules (codes "AccessRoot") s.name
        → (same_numbers s.name (codes "AccessRoot") || test_at rules (has (access_row rules.stars rows)) s) ≡ true
    in_access (inl r) = ap (λ b. b || test_at rules (has (access_row rules.stars rows)) s) r
    in_access (inr r) = ap (λ b. same_numbers s.name (codes "AccessRoot") || b) (told.1 r) ∙ or-true (same_numbers s.name (codes "AccessRoot"))

    from : HasGlueInAccess rules s → ((same_numbers s.name (codes "AccessRoot") || test_at rules (has (access_row rules.stars rows)) s) && has_glue s.alternatives) ≡ true
    from (reached_it, glue) = λ k. in_access reached_it k && (sym (glue_where s.alternatives) ∙ glue) k

-- ---- case by case

names : (rules : RuleFile) → NamesPass rules ⊎ ((f : RuleFault) × IsRefusedBy rules f)
names rules = from_unknown (first_star (is_unknown rules) rules.stars) (star_case rules (is_unknown rules) (first_star (is_unknown rules) rules.stars) refl)
  where
    from_kinds : Never rules (Unknown rules) → Never rules (Twice rules) → Never rules (WrongArity rules) → (r : Option ℕ) → FirstOrNever rules (WrongKind rules) r
        → NamesPass rules ⊎ ((f : RuleFault) × IsRefusedBy rules f)
    from_kinds known once arity None kinds = inl (record { known = known; once = once; arity = arity; kinds = kinds })
    from_kinds known once arity (Some k) first = inr (fault.Kind k, (passed_3 rules known once arity, first))

    from_arity : Never rules (Unknown rules) → Never rules (Twice rules) → (r : Option ℕ) → FirstOrNever rules (WrongArity rules) r
        → NamesPass rules ⊎ ((f : RuleFault) × IsRefusedBy rules f)
    from_arity known once None arity =
        from_kinds known once arity (first_star (has_wrong_kind rules) rules.stars) (star_case rules (has_wrong_kind rules) (first_star (has_wrong_kind rules) rules.stars) refl)
    from_arity known once (Some k) first = inr (fault.Arity k, (passed_2 rules known once, first))

    from_twice : Never rules (Unknown rules) → (r : Option ℕ) → FirstOrNever rules (Twice rules) r → NamesPass rules ⊎ ((f : RuleFault) × IsRefusedBy rules f)
    from_twice known None once =
        from_arity known once (first_star (has_wrong_arity rules) rules.stars) (star_case rules (has_wrong_arity rules) (first_star (has_wrong_arity rules) rules.stars) refl)
    from_twice known (Some k) first = inr (fault.Twice k, (passed_1 rules known, first))

    from_unknown : (r : Option ℕ) → FirstOrNever rules (Unknown rules) r → NamesPass rules ⊎ ((f : RuleFault) × IsRefusedBy rules f)
    from_unknown None known =
        from_twice known (first_twice rules) (twice_case rules (first_twice rules) refl)
    from_unknown (Some k) first = inr (fault.Unknown k, first)

references : (rules : RuleFile) → NamesPass rules → NamesAreOwn rules → ReferencesPass rules ⊎ ((f : RuleFault) × IsRefusedBy rules f)
references rules names own =
    from_cycle
    (first_star (test_at rules (λ i. has (slice_index rows i) i)) rules.stars)
    (first_told
    rules
    (test_at rules (λ i. has (slice_index rows i) i))
    (IsInCycle rules)
    (tells rules (λ i. has (slice_index rows i) i) (IsInCycle rules) own (λ i s at. reached.reach i i s s at at)))
  where
    rows : List ℕ
    rows = joined_below (length (own_rows rules.stars)) (own_rows rules.stars)

    reached : AreReached rules (joined_below (length (own_rows rules.stars)) (own_rows rules.stars))
    reached = closes rules (own_rows rules.stars) own (are_direct rules.stars)

    from_glue : Never rules (InCycle rules) → (r : Option ℕ) → FirstOrNever rules (GlueInAccess rules) r → ReferencesPass rules ⊎ ((f : RuleFault) × IsRefusedBy rules f)
    from_glue no_cycle None no_glue = inl (record { no_cycle = no_cycle; no_glue_in_access = no_glue })
    from_glue no_cycle (Some k) first = inr (fault.GlueInAccess k, (passed_5 rules names no_cycle, first))

    from_cycle : (r : Option ℕ) → FirstOrNever rules (InCycle rules) r → ReferencesPass rules ⊎ ((f : RuleFault) × IsRefusedBy rules f)
    from_cycle None no_cycle =
        from_glue
        no_cycle
        (first_star (λ s. (same_numbers s.name (codes "AccessRoot") || test_at rules (has (access_row rules.stars (joined_below (length (own_rows rules.stars)) (own_rows rules.stars)))) s) && has_glue s.alternatives) rules.stars)
        (first_told
        rules
        (λ s. (same_numbers s.name (codes "AccessRoot") || test_at rules (has (access_row rules.stars (joined_below (length (own_rows rules.stars)) (own_rows rules.stars)))) s) && has_glue s.alternatives)
        (HasGlueInAccess rules)
        (glue_told rules (joined_below (length (own_rows rules.stars)) (own_rows rules.stars)) own reached))
    from_cycle (Some k) first = inr (fault.Cycle k, (passed_4 rules names, first))

formulas : (rules : RuleFile) → NamesPass rules → ReferencesPass rules → FormulasPass rules ⊎ ((f : RuleFault) × IsRefusedBy rules f)
formulas rules names references = from_access (lacks_root rules root.AccessRoot) refl
  where
    from_monotone : ((r : Root) → lacks_root rules r ≡ false) → ((f : Flavour) → lacks_formula rules f ≡ false) → (r : Option ℕ) → FirstOrNever rules (NotMonotone rules) r
        → FormulasPass rules ⊎ ((f : RuleFault) × IsRefusedBy rules f)
    from_monotone roots all None monotone = inl (record { roots = roots; formulas = all; monotone = monotone })
    from_monotone roots all (Some k) first =
        let d : FormulaDef = first.0.0 in
        let at = offends_at d first.0.3 in
        inr (
          fault.NotMonotone d.flavour d.which at.0,
          (passed_8 rules names references roots all, (k, first, (d, first.0.1, first.0.2, (refl, refl, at.1)))),
        )

    from_formula : ((r : Root) → lacks_root rules r ≡ false) → (r : Option Flavour) → IsMissingFormula rules r → FormulasPass rules ⊎ ((f : RuleFault) × IsRefusedBy rules f)
    from_formula roots None all =
        from_monotone roots all (first_formula (λ d. is_some (first_offending d.formula)) rules.formulas) (formula_case rules (λ d. is_some (first_offending d.formula)))
    from_formula roots (Some f) first = inr (fault.NoFormula f, (passed_7 rules names references roots, first))

    both : lacks_root rules root.AccessRoot ≡ false → lacks_root rules root.JoinRoot ≡ false → (r : Root) → lacks_root rules r ≡ false
    both access join root.AccessRoot = access
    both access join root.JoinRoot = join

    from_join : lacks_root rules root.AccessRoot ≡ false → (b : Bool) → lacks_root rules root.JoinRoot ≡ b → FormulasPass rules ⊎ ((f : RuleFault) × IsRefusedBy rules f)
    from_join access true join = inr (fault.NoRoot root.JoinRoot, (passed_6 rules names references, access, join))
    from_join access false join =
        from_formula (both access join) (find (lacks_formula rules) flavours) (missing rules (find (lacks_formula rules) flavours) refl)

    from_access : (b : Bool) → lacks_root rules root.AccessRoot ≡ b → FormulasPass rules ⊎ ((f : RuleFault) × IsRefusedBy rules f)
    from_access true access = inr (fault.NoRoot root.AccessRoot, (passed_6 rules names references, access))
    from_access false access = from_join access (lacks_root rules root.JoinRoot) refl

sizes : (rules : RuleFile) → NamesPass rules → ReferencesPass rules → FormulasPass rules → IsAccepted rules ⊎ ((f : RuleFault) × IsRefusedBy rules f)
sizes rules names references formulas =
    from_height
    (first_star (λ s. nat_lt 16 (height_of rules s)) rules.stars)
    (star_case rules (λ s. nat_lt 16 (height_of rules s)) (first_star (λ s. nat_lt 16 (height_of rules s)) rules.stars) refl)
  where
    from_weight : Never rules (TooTall rules) → (r : Option ℕ) → FirstOrNever rules (TooWide rules) r → IsAccepted rules ⊎ ((f : RuleFault) × IsRefusedBy rules f)
    from_weight low None narrow =
        inl
        (record {
          known = names.known;
          once = names.once;
          arity = names.arity;
          kinds = names.kinds;
          no_cycle = references.no_cycle;
          no_glue_in_access = references.no_glue_in_access;
          roots = formulas.roots;
          formulas = formulas.formulas;
          monotone = formulas.monotone;
          low = low;
          narrow = narrow;
        })
    from_weight low (Some k) first =
        let s : StarDef = first.0.0 in
        inr (
          fault.TooWide k (weight_of rules s),
          (passed_10 rules names references formulas low, first, (s, first.0.1, first.0.2, eq-eqb (weight_of rules s) (weight_of rules s) refl)),
        )

    from_height : (r : Option ℕ) → FirstOrNever rules (TooTall rules) r → IsAccepted rules ⊎ ((f : RuleFault) × IsRefusedBy rules f)
    from_height None low =
        from_weight
        low
        (first_star (λ s. nat_lt 4096 (weight_of rules s)) rules.stars)
        (star_case rules (λ s. nat_lt 4096 (weight_of rules s)) (first_star (λ s. nat_lt 4096 (weight_of rules s)) rules.stars) refl)
    from_height (Some k) first =
        let s : StarDef = first.0.0 in
        inr (
          fault.TooTall k (height_of rules s),
          (passed_9 rules names references formulas, first, (s, first.0.1, first.0.2, eq-eqb (height_of rules s) (height_of rules s) refl)),
        )

pub some_answer : (rules : RuleFile) → WellFormedRules rules → IsAccepted rules ⊎ ((f : RuleFault) × IsRefusedBy rules f)
some_answer rules formed =
    elim (names rules) [
      | inr refused ↦ inr refused
      | inl named ↦
          elim (references rules named (names_are_own rules formed named.once)) [
            | inr refused ↦ inr refused
            | inl referred ↦ elim (formulas rules named referred) [ inr refused ↦ inr refused | inl all ↦ sizes rules named referred all ]
          ]
    ]
