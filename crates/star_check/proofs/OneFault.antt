-- A rule file is refused by one fault at most, and by none where it is accepted.
use Rattle.std.proofs.Common.{◌≡◌, ℕ, ◌<◌, ◌≤◌, inl, inr, true, nat_eq, List, map, refl, ap, sym, ◌∙◌, arith}
use Rattle.std.specs.Prelude.{Some, slice_get, Contains}
use Rattle.std.proofs.lemmas.Bool.{false≢true, eqb-true, cases_lt}
use Rattle.std.proofs.lemmas.Option.{same_Some, slice_get-get_or}
use Rattle.star_model.specs.Costs.{row_of}
use Rattle.star_model.specs.Monotone.{first_offending}
use Rattle.star_model.specs.WellFormed.{differ}
use Rattle.star_model.specs.Accepted.{First, FirstFlavour, OfStarTest, OfFormula, Unknown, Twice, WrongArity, WrongKind, InCycle, GlueInAccess, NotMonotone, TooTall, TooWide, lacks_formula, height_of, weight_of, Passed, IsAccepted, IsRefusedBy}
use Rattle.star_model.specs.declared.faults.Root.TheVariants as root
use Rattle.star_model.specs.declared.faults.RuleFault.{RuleFault}
use Rattle.star_model.specs.declared.faults.RuleFault.TheVariants as fault
use Rattle.star_model.specs.declared.rules.Flavour.{Flavour}
use Rattle.star_model.specs.declared.rules.Which.{Which}
use Rattle.star_model.specs.declared.rules.StarDef.{StarDef}
use Rattle.star_model.specs.declared.rules.RuleFile.{RuleFile}
use Rattle.star_model.specs.WellFormedRules.{WellFormedRules}
use Rattle.star_model.proofs.Laws.{one_row}
use Rattle.star_check.proofs.Owned.{one_place, stars_differ, formulas_differ}

-- the place of the fault's case in the order of the refusals
abbrev stage : RuleFault → ℕ
stage (fault.Unknown k) = 0
stage (fault.Twice k) = 1
stage (fault.Arity k) = 2
stage (fault.Kind k) = 3
stage (fault.Cycle k) = 4
stage (fault.GlueInAccess k) = 5
stage (fault.NoRoot r) = 6
stage (fault.NoFormula f) = 7
stage (fault.NotMonotone f w n) = 8
stage (fault.TooTall k h) = 9
stage (fault.TooWide k w) = 10
stage _ = 11

beyond : {P : Type 0} (i n : ℕ) → n ≤ i → i < n → P
beyond i n least less = let no : ⊥ = omega (arith, least, less) in absurd no

-- the cases before that of the fault don't hold
passed_of : (rules : RuleFile) (g : RuleFault) → IsRefusedBy rules g → Passed rules (stage g)
passed_of rules (fault.Unknown k) h = (
  beyond 0 0 (omega arith),
  beyond 1 0 (omega arith),
  beyond 2 0 (omega arith),
  beyond 3 0 (omega arith),
  beyond 4 0 (omega arith),
  beyond 5 0 (omega arith),
  beyond 6 0 (omega arith),
  beyond 7 0 (omega arith),
  beyond 8 0 (omega arith),
  beyond 9 0 (omega arith),
)
passed_of rules (fault.Twice k) h = h.0
passed_of rules (fault.Arity k) h = h.0
passed_of rules (fault.Kind k) h = h.0
passed_of rules (fault.Cycle k) h = h.0
passed_of rules (fault.GlueInAccess k) h = h.0
passed_of rules (fault.NoRoot root.AccessRoot) h = h.0
passed_of rules (fault.NoRoot root.JoinRoot) h = h.0
passed_of rules (fault.NoFormula f) h = h.0
passed_of rules (fault.NotMonotone f w n) h = h.0
passed_of rules (fault.TooTall k n) h = h.0
passed_of rules (fault.TooWide k n) h = h.0
passed_of rules _ h = absurd h

last : (rules : RuleFile) (g : RuleFault) → IsRefusedBy rules g → stage g ≤ 10
last rules (fault.Unknown k) h = omega arith
last rules (fault.Twice k) h = omega arith
last rules (fault.Arity k) h = omega arith
last rules (fault.Kind k) h = omega arith
last rules (fault.Cycle k) h = omega arith
last rules (fault.GlueInAccess k) h = omega arith
last rules (fault.NoRoot r) h = omega arith
last rules (fault.NoFormula f) h = omega arith
last rules (fault.NotMonotone f w n) h = omega arith
last rules (fault.TooTall k n) h = omega arith
last rules (fault.TooWide k n) h = omega arith
last rules _ h = absurd h

sooner : (rules : RuleFile) (f g : RuleFault) → IsRefusedBy rules f → IsRefusedBy rules g → stage f < stage g → ⊥
sooner rules f g p q less = cases f p less (passed_of rules g q) (last rules g q)
  where
    cases : (f : RuleFault) → IsRefusedBy rules f → stage f < stage g → Passed rules (stage g) → stage g ≤ 10 → ⊥
    cases (fault.Unknown k) p less passed end = passed.0 less k p.0
    cases (fault.Twice k) p less passed end = passed.1 less k p.1.0
    cases (fault.Arity k) p less passed end = passed.2 less k p.1.0
    cases (fault.Kind k) p less passed end = passed.3 less k p.1.0
    cases (fault.Cycle k) p less passed end = passed.4 less k p.1.0
    cases (fault.GlueInAccess k) p less passed end = passed.5 less k p.1.0
    cases (fault.NoRoot root.AccessRoot) p less passed end = false≢true (sym (passed.6 less root.AccessRoot) ∙ p.1)
    cases (fault.NoRoot root.JoinRoot) p less passed end = false≢true (sym (passed.6 less root.JoinRoot) ∙ p.2)
    cases (fault.NoFormula f) p less passed end = false≢true (sym (passed.7 less f) ∙ p.1.0)
    cases (fault.NotMonotone f w n) p less passed end = passed.8 less p.1.0 p.1.1.0
    cases (fault.TooTall k n) p less passed end = passed.9 less k p.1.0
    cases (fault.TooWide k n) p less passed end = omega (arith, less, end)
    cases _ p less passed end = absurd p

-- ---- one fault of each case

one_first : (rules : RuleFile) (P : ℕ → Type 0) (k j : ℕ) → First rules P k → First rules P j → k ≡ j
one_first rules P k j p q = let a : k ≤ j = p.1 j q.0 in let b : j ≤ k = q.1 k p.0 in omega (arith, a, b)

at_place : {A : Type 0} (xs : List A) (x : A) (has : Contains xs x) → slice_get xs has.0 ≡ Some x
at_place xs x has = slice_get-get_or xs has.0 x has.1 ∙ ap Some has.2

one_item : {A : Type 0} (key : A → ℕ) (xs : List A) (x y : A) → differ nat_eq (map key xs) ≡ true → Contains xs x → Contains xs y → key x ≡ key y → x ≡ y
one_item key xs x y h has_x has_y is =
    let place : has_x.0 ≡ has_y.0 = one_place key xs has_x.0 has_y.0 x y h (at_place xs x has_x) (at_place xs y has_y) is in
    same_Some x y (sym (at_place xs x has_x) ∙ ap (slice_get xs) place ∙ at_place xs y has_y)

-- the STAR of a statement has one size
one_size : (rules : RuleFile) (size : StarDef → ℕ) (k j m n : ℕ) → WellFormedRules rules → k ≡ j → OfStarTest rules (λ s. nat_eq (size s) m) k → OfStarTest rules (λ s. nat_eq (size s) n) j
    → m ≡ n
one_size rules size k j m n formed e p q =
    let same : p.0 ≡ q.0 =
    one_item
    (λ s. s.statement)
    rules.stars
    p.0
    q.0
    (stars_differ rules formed)
    p.1
    q.1
    (p.2 ∙ e ∙ sym q.2) in
    sym (eqb-true (size p.0) m p.3) ∙ ap size same ∙ eqb-true (size q.0) n q.3

one_offence : (rules : RuleFile) (f g : Flavour) (v w : Which) (m n k j : ℕ) → WellFormedRules rules → k ≡ j
    → OfFormula rules (λ d. (d.flavour ≡ f) × (d.which ≡ v) × (first_offending d.formula ≡ Some m)) k
    → OfFormula rules (λ d. (d.flavour ≡ g) × (d.which ≡ w) × (first_offending d.formula ≡ Some n)) j
    → fault.NotMonotone f v m ≡ fault.NotMonotone g w n
one_offence rules f g v w m n k j formed e p q =
    let same : p.0 ≡ q.0 =
    one_item
    (λ d. d.statement)
    rules.formulas
    p.0
    q.0
    (formulas_differ rules formed)
    p.1
    q.1
    (p.2 ∙ e ∙ sym q.2) in
    let flavours : f ≡ g = sym p.3.0 ∙ ap (λ d. d.flavour) same ∙ q.3.0 in
    let whiches : v ≡ w = sym p.3.1 ∙ ap (λ d. d.which) same ∙ q.3.1 in
    let nodes : m ≡ n = same_Some m n (sym p.3.2 ∙ ap (λ d. first_offending d.formula) same ∙ q.3.2) in
    (λ i. fault.NotMonotone (flavours i) (whiches i) (nodes i))

one_flavour : (rules : RuleFile) (f g : Flavour) → FirstFlavour rules (lacks_formula rules) f → FirstFlavour rules (lacks_formula rules) g → f ≡ g
one_flavour rules f g p q =
    let a : row_of f ≤ row_of g = p.1 g q.0 in
    let b : row_of g ≤ row_of f = q.1 f p.0 in
    let rows : row_of f ≡ row_of g = omega (arith, a, b) in
    one_row f g rows

same_stage : (rules : RuleFile) → WellFormedRules rules → (f g : RuleFault) → stage f ≡ stage g → IsRefusedBy rules f → IsRefusedBy rules g → f ≡ g
same_stage rules formed (fault.Unknown k) (fault.Unknown j) e p q = ap fault.Unknown (one_first rules (Unknown rules) k j p q)
same_stage rules formed (fault.Unknown k) _ e p q = let no : ⊥ = omega (arith, e) in absurd no
same_stage rules formed (fault.Twice k) (fault.Twice j) e p q = ap fault.Twice (one_first rules (Twice rules) k j p.1 q.1)
same_stage rules formed (fault.Twice k) _ e p q = let no : ⊥ = omega (arith, e) in absurd no
same_stage rules formed (fault.Arity k) (fault.Arity j) e p q = ap fault.Arity (one_first rules (WrongArity rules) k j p.1 q.1)
same_stage rules formed (fault.Arity k) _ e p q = let no : ⊥ = omega (arith, e) in absurd no
same_stage rules formed (fault.Kind k) (fault.Kind j) e p q = ap fault.Kind (one_first rules (WrongKind rules) k j p.1 q.1)
same_stage rules formed (fault.Kind k) _ e p q = let no : ⊥ = omega (arith, e) in absurd no
same_stage rules formed (fault.Cycle k) (fault.Cycle j) e p q = ap fault.Cycle (one_first rules (InCycle rules) k j p.1 q.1)
same_stage rules formed (fault.Cycle k) _ e p q = let no : ⊥ = omega (arith, e) in absurd no
same_stage rules formed (fault.GlueInAccess k) (fault.GlueInAccess j) e p q = ap fault.GlueInAccess (one_first rules (GlueInAccess rules) k j p.1 q.1)
same_stage rules formed (fault.GlueInAccess k) _ e p q = let no : ⊥ = omega (arith, e) in absurd no
same_stage rules formed (fault.NoRoot root.AccessRoot) (fault.NoRoot root.AccessRoot) e p q = refl
same_stage rules formed (fault.NoRoot root.AccessRoot) (fault.NoRoot root.JoinRoot) e p q = absurd (false≢true (sym q.1 ∙ p.1))
same_stage rules formed (fault.NoRoot root.AccessRoot) _ e p q = let no : ⊥ = omega (arith, e) in absurd no
same_stage rules formed (fault.NoRoot root.JoinRoot) (fault.NoRoot root.AccessRoot) e p q = absurd (false≢true (sym p.1 ∙ q.1))
same_stage rules formed (fault.NoRoot root.JoinRoot) (fault.NoRoot root.JoinRoot) e p q = refl
same_stage rules formed (fault.NoRoot root.JoinRoot) _ e p q = let no : ⊥ = omega (arith, e) in absurd no
same_stage rules formed (fault.NoFormula f) (fault.NoFormula g) e p q = ap fault.NoFormula (one_flavour rules f g p.1 q.1)
same_stage rules formed (fault.NoFormula f) _ e p q = let no : ⊥ = omega (arith, e) in absurd no
same_stage rules formed (fault.NotMonotone f v m) (fault.NotMonotone g w n) e p q =
    one_offence rules f g v w m n p.1.0 q.1.0 formed (one_first rules (NotMonotone rules) p.1.0 q.1.0 p.1.1 q.1.1) p.1.2 q.1.2
same_stage rules formed (fault.NotMonotone f v m) _ e p q = let no : ⊥ = omega (arith, e) in absurd no
same_stage rules formed (fault.TooTall k m) (fault.TooTall j n) e p q =
    let statement : k ≡ j = one_first rules (TooTall rules) k j p.1 q.1 in
    let height : m ≡ n = one_size rules (height_of rules) k j m n formed statement p.2 q.2 in
    (λ i. fault.TooTall (statement i) (height i))
same_stage rules formed (fault.TooTall k m) _ e p q = let no : ⊥ = omega (arith, e) in absurd no
same_stage rules formed (fault.TooWide k m) (fault.TooWide j n) e p q =
    let statement : k ≡ j = one_first rules (TooWide rules) k j p.1 q.1 in
    let weight : m ≡ n = one_size rules (weight_of rules) k j m n formed statement p.2 q.2 in
    (λ i. fault.TooWide (statement i) (weight i))
same_stage rules formed (fault.TooWide k m) _ e p q = let no : ⊥ = omega (arith, e) in absurd no
same_stage rules formed _ g e p q = absurd p

pub one_fault : (rules : RuleFile) (f g : RuleFault) → WellFormedRules rules → IsRefusedBy rules f → IsRefusedBy rules g → f ≡ g
one_fault rules f g formed p q =
    elim (cases_lt (stage f) (stage g)) [
      | inl less ↦ absurd (sooner rules f g p q less)
      | inr ge ↦
          elim (cases_lt (stage g) (stage f)) [
            | inl more ↦ absurd (sooner rules g f q p more)
            | inr le ↦ same_stage rules formed f g (omega (arith, ge, le)) p q
          ]
    ]

pub accepted_or_refused : (rules : RuleFile) (f : RuleFault) → IsAccepted rules → IsRefusedBy rules f → ⊥
accepted_or_refused rules (fault.Unknown k) accepted p = accepted.known k p.0
accepted_or_refused rules (fault.Twice k) accepted p = accepted.once k p.1.0
accepted_or_refused rules (fault.Arity k) accepted p = accepted.arity k p.1.0
accepted_or_refused rules (fault.Kind k) accepted p = accepted.kinds k p.1.0
accepted_or_refused rules (fault.Cycle k) accepted p = accepted.no_cycle k p.1.0
accepted_or_refused rules (fault.GlueInAccess k) accepted p = accepted.no_glue_in_access k p.1.0
accepted_or_refused rules (fault.NoRoot root.AccessRoot) accepted p = false≢true (sym (accepted.roots root.AccessRoot) ∙ p.1)
accepted_or_refused rules (fault.NoRoot root.JoinRoot) accepted p = false≢true (sym (accepted.roots root.JoinRoot) ∙ p.2)
accepted_or_refused rules (fault.NoFormula f) accepted p = false≢true (sym (accepted.formulas f) ∙ p.1.0)
accepted_or_refused rules (fault.NotMonotone f w n) accepted p = accepted.monotone p.1.0 p.1.1.0
accepted_or_refused rules (fault.TooTall k n) accepted p = accepted.low k p.1.0
accepted_or_refused rules (fault.TooWide k n) accepted p = accepted.narrow k p.1.0
accepted_or_refused rules _ accepted p = absurd p
