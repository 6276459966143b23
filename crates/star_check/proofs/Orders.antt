-- The first statement with a case, and the cases before it that don't hold.
use Prim.Native.Nat.{zero, suc}
use Rattle.std.proofs.Common.{◌≡◌, ℕ, ◌<◌, ◌≤◌, ◌⊎◌, inl, inr, min, Bool, true, false, if◌then◌else◌, nat_eq, nat_lt, List, [], ◌∷◌, map, refl, ap, sym, ◌∙◌, subst, arith}
use Rattle.std.specs.Prelude.{Option, Some, None, is_some, filter, Contains}
use Rattle.std.specs.List.{fold, reduce}
use Rattle.std.proofs.lemmas.Bool.{false≢true, eq-eqb, cases_lt}
use Rattle.star_model.specs.Monotone.{first_offending}
use Rattle.star_model.specs.Accepted.{Never, First, OfStar, OfStarTest, OfFormula, OfSelect, Unknown, Twice, WrongArity, InCycle, NotMonotone, TooTall, is_star_twice, is_formula_twice, is_select_twice, lacks_root, lacks_formula, Passed}
use Rattle.star_model.specs.declared.faults.Root.{Root}
use Rattle.star_model.specs.declared.faults.RuleFault.{RuleFault}
use Rattle.star_model.specs.declared.rules.Flavour.{Flavour}
use Rattle.star_model.specs.declared.rules.StarDef.{StarDef}
use Rattle.star_model.specs.declared.rules.FormulaDef.{FormulaDef}
use Rattle.star_model.specs.declared.rules.SelectDef.{SelectDef}
use Rattle.star_model.specs.declared.rules.RuleFile.{RuleFile}
use Rattle.star_check.specs.declared.found.Found.{Found}
use Rattle.star_check.specs.declared.not_monotone.Offence.{Offence}
use Rattle.star_check.specs.Findings.{IsFirstFound}
use Rattle.star_check.specs.Offences.{ShowsOffence}
use Rattle.star_check.specs.FirstStatements.{FirstOrNever, first_star, first_formula, first_select, first_twice, earlier, earlier_of, with_statement}
use Rattle.star_check.specs.Passing.{NamesPass, ReferencesPass, FormulasPass, PassesOr}

-- ---- the least key of the items that pass

contains_cases : {A : Type 0} (x : A) (xs : List A) (y : A) → Contains (x ∷ xs) y → (x ≡ y) ⊎ Contains xs y
contains_cases x xs y (zero, below, is) = inl is
contains_cases x xs y (suc k, below, is) = inr (k, omega (arith, below), is)

contains_later : {A : Type 0} (x : A) (xs : List A) (y : A) → Contains xs y → Contains (x ∷ xs) y
contains_later x xs y has = (suc has.0, omega (arith, has.1), has.2)

IsLeast : {A : Type 0} → (A → ℕ) → (A → Bool) → List A → Option ℕ → Type 0
IsLeast {A} key test xs None = (x : A) → Contains xs x → test x ≡ true → ⊥
IsLeast {A} key test xs (Some k) = ((x : A) × Contains xs x × (key x ≡ k) × (test x ≡ true)) × ((x : A) → Contains xs x → test x ≡ true → k ≤ key x)

one_more : {A : Type 0} (key : A → ℕ) (test : A → Bool) (x : A) (xs : List A) (r : Option ℕ) → IsLeast key test xs r → IsLeast key test (x ∷ xs) (with_statement r (test x) (key x))
unfolding IsLeast
one_more {A = A} key test x xs r least = step (test x) refl r least
  where
    step : (b : Bool) → test x ≡ b → (r : Option ℕ) → IsLeast key test xs r → IsLeast key test (x ∷ xs) (with_statement r b (key x))
    step false is None none = λ y has passes. elim (contains_cases x xs y has) [ inl e ↦ false≢true (sym is ∙ ap test e ∙ passes) | inr h ↦ none y h passes ]
    step false is (Some k) some = (
      (some.0.0, contains_later x xs some.0.0 some.0.1, some.0.2, some.0.3),
      (λ y has passes. elim (contains_cases x xs y has) [ inl e ↦ absurd (false≢true (sym is ∙ ap test e ∙ passes)) | inr h ↦ some.1 y h passes ]),
    )
    step true is None none = (
      (x, (0, omega arith, refl), refl, is),
      (λ y has passes. elim (contains_cases x xs y has) [ inl e ↦ let k = ap key e in omega (arith, k) | inr h ↦ absurd (none y h passes) ]),
    )
    step true is (Some k) some =
        elim (cases_lt (key x) k) [
          | inl lt ↦ (
            (x, (0, omega arith, refl), (let e : key x ≡ min k (key x) = omega (arith, lt) in e), is),
            (λ y has passes. elim (contains_cases x xs y has) [ inl e ↦ let k = ap key e in omega (arith, k) | inr h ↦ let l = some.1 y h passes in omega (arith, l) ]),
          )
          | inr ge ↦ (
            (some.0.0, contains_later x xs some.0.0 some.0.1, (let s = some.0.2 in let e : key some.0.0 ≡ min k (key x) = omega (arith, s, ge) in e), some.0.3),
            (λ y has passes. elim (contains_cases x xs y has) [ inl e ↦ let k = ap key e in omega (arith, k) | inr h ↦ let l = some.1 y h passes in omega (arith, l) ]),
          )
        ]

fold_least : (k : ℕ) (ks : List ℕ) → fold min k ks ≡ earlier (reduce min ks) k
fold_least k [] = refl
fold_least k (j ∷ js) = turn js j k
  where
    turn : (js : List ℕ) (j k : ℕ) → fold min (min k j) js ≡ min (fold min j js) k
    turn [] j k = omega arith
    turn (i ∷ js) j k = ap (λ m. fold min m js) (let e : min (min k j) i ≡ min k (min j i) = omega arith in e) ∙ turn js (min j i) k

least : {A : Type 0} (key : A → ℕ) (test : A → Bool) (xs : List A) → IsLeast key test xs (reduce min (map key (filter test xs)))
unfolding IsLeast
least key test [] = λ x has passes. omega (arith, has.1)
least {A = A} key test (x ∷ xs) = subst (IsLeast key test (x ∷ xs)) (sym (is (test x))) (one_more key test x xs (reduce min (map key (filter test xs))) (least key test xs))
  where
    is : (b : Bool) → reduce min (map key (if b then x ∷ filter test xs else filter test xs)) ≡ with_statement (reduce min (map key (filter test xs))) b (key x)
    is true = ap Some (fold_least (key x) (map key (filter test xs)))
    is false = refl

star_least : (rules : RuleFile) (test : StarDef → Bool) (r : Option ℕ) → IsLeast (λ (s : StarDef). s.statement) test rules.stars r → FirstOrNever rules (OfStarTest rules test) r
unfolding IsLeast
star_least rules test None none = λ k case. none case.0 case.1 case.3
star_least rules test (Some k) some = (
  (some.0.0, some.0.1, some.0.2, some.0.3),
  (λ j case. let l = some.1 case.0 case.1 case.3 in let e = case.2 in omega (arith, l, e)),
)

pub star_case : (rules : RuleFile) (test : StarDef → Bool) (r : Option ℕ) → r ≡ first_star test rules.stars → FirstOrNever rules (OfStarTest rules test) r
star_case rules test r is = star_least rules test r (subst (IsLeast (λ s. s.statement) test rules.stars) (sym is) (least (λ s. s.statement) test rules.stars))

formula_least : (rules : RuleFile) (test : FormulaDef → Bool) (r : Option ℕ) → IsLeast (λ (d : FormulaDef). d.statement) test rules.formulas r
    → FirstOrNever rules (OfFormula rules (λ d. test d ≡ true)) r
unfolding IsLeast
formula_least rules test None none = λ k case. none case.0 case.1 case.3
formula_least rules test (Some k) some = (
  (some.0.0, some.0.1, some.0.2, some.0.3),
  (λ j case. let l = some.1 case.0 case.1 case.3 in let e = case.2 in omega (arith, l, e)),
)

pub formula_case : (rules : RuleFile) (test : FormulaDef → Bool) → FirstOrNever rules (OfFormula rules (λ d. test d ≡ true)) (first_formula test rules.formulas)
formula_case rules test = formula_least rules test (first_formula test rules.formulas) (least (λ d. d.statement) test rules.formulas)

select_least : (rules : RuleFile) (test : SelectDef → Bool) (r : Option ℕ) → IsLeast (λ (d : SelectDef). d.statement) test rules.selects r
    → FirstOrNever rules (OfSelect rules (λ d. test d ≡ true)) r
unfolding IsLeast
select_least rules test None none = λ k case. none case.0 case.1 case.3
select_least rules test (Some k) some = (
  (some.0.0, some.0.1, some.0.2, some.0.3),
  (λ j case. let l = some.1 case.0 case.1 case.3 in let e = case.2 in omega (arith, l, e)),
)

select_case : (rules : RuleFile) (test : SelectDef → Bool) → FirstOrNever rules (OfSelect rules (λ d. test d ≡ true)) (first_select test rules.selects)
select_case rules test = select_least rules test (first_select test rules.selects) (least (λ d. d.statement) test rules.selects)

-- ---- what is defined twice: by a STAR's statement, a formula's or a selectivity's

union : (rules : RuleFile) (P Q : ℕ → Type 0) (a b : Option ℕ) → FirstOrNever rules P a → FirstOrNever rules Q b → FirstOrNever rules (λ k. P k ⊎ Q k) (earlier_of a b)
union rules P Q None None p q = λ k case. elim case [ inl h ↦ p k h | inr h ↦ q k h ]
union rules P Q (Some j) None p q = (inl p.0, (λ k case. elim case [ inl h ↦ p.1 k h | inr h ↦ absurd (q k h) ]))
union rules P Q None (Some j) p q = (inr q.0, (λ k case. elim case [ inl h ↦ absurd (p k h) | inr h ↦ q.1 k h ]))
union rules P Q (Some i) (Some j) p q =
    elim (cases_lt j i) [
      | inl lt ↦
          let is : j ≡ min i j = omega (arith, lt) in (
            inr (subst Q is q.0),
            (λ k case. elim case [ inl h ↦ let l = p.1 k h in omega (arith, l) | inr h ↦ let l = q.1 k h in omega (arith, l) ]),
          )
      | inr ge ↦
          let is : i ≡ min i j = omega (arith, ge) in (
            inl (subst P is p.0),
            (λ k case. elim case [ inl h ↦ let l = p.1 k h in omega (arith, l) | inr h ↦ let l = q.1 k h in omega (arith, l) ]),
          )
    ]

pub twice_case : (rules : RuleFile) (r : Option ℕ) → r ≡ first_twice rules → FirstOrNever rules (Twice rules) r
twice_case rules r is =
    subst
    (FirstOrNever rules (Twice rules))
    (sym is)
    (union
    rules
    (OfStarTest rules (is_star_twice rules))
    (λ k. OfFormula rules (λ d. is_formula_twice rules d ≡ true) k ⊎ OfSelect rules (λ d. is_select_twice rules d ≡ true) k)
    (first_star (is_star_twice rules) rules.stars)
    (earlier_of (first_formula (is_formula_twice rules) rules.formulas) (first_select (is_select_twice rules) rules.selects))
    (star_case rules (is_star_twice rules) (first_star (is_star_twice rules) rules.stars) refl)
    (union
    rules
    (OfFormula rules (λ d. is_formula_twice rules d ≡ true))
    (OfSelect rules (λ d. is_select_twice rules d ≡ true))
    (first_formula (is_formula_twice rules) rules.formulas)
    (first_select (is_select_twice rules) rules.selects)
    (formula_case rules (is_formula_twice rules))
    (select_case rules (is_select_twice rules))))

-- ---- what is found with the statement

pub star_found : (rules : RuleFile) (Case : StarDef → Type 0) (f : Found (Unit {0})) → IsFirstFound (λ (s : StarDef) (g : Found (Unit {0})). (s.statement ≡ g.statement) × Case s) rules.stars (Some f)
    → First rules (OfStar rules Case) f.statement
star_found rules Case f found = (
  (found.0.0, found.0.1, found.0.2.0, found.0.2.1),
  (λ j case. found.1 case.0 (record { statement = j; what = tt }) case.1 (case.2, case.3)),
)

pub no_star_found : (rules : RuleFile) (Case : StarDef → Type 0) → IsFirstFound (λ (s : StarDef) (g : Found (Unit {0})). (s.statement ≡ g.statement) × Case s) rules.stars None
    → Never rules (OfStar rules Case)
no_star_found rules Case none = λ j case. none case.0 (record { statement = j; what = tt }) case.1 (case.2, case.3)

pub size_found : (rules : RuleFile) (limit : ℕ) (size : StarDef → ℕ) (f : Found ℕ)
    → IsFirstFound (λ (s : StarDef) (g : Found ℕ). (s.statement ≡ g.statement) × (nat_lt limit (size s) ≡ true) × (size s ≡ g.what)) rules.stars (Some f)
    → First rules (OfStarTest rules (λ s. nat_lt limit (size s))) f.statement × OfStarTest rules (λ s. nat_eq (size s) f.what) f.statement
size_found rules limit size f found = (
  (
    (found.0.0, found.0.1, found.0.2.0, found.0.2.1),
    (λ j case. found.1 case.0 (record { statement = j; what = size case.0 }) case.1 (case.2, case.3, refl)),
  ),
  (found.0.0, found.0.1, found.0.2.0, eq-eqb (size found.0.0) f.what found.0.2.2),
)

pub no_size_found : (rules : RuleFile) (limit : ℕ) (size : StarDef → ℕ)
    → IsFirstFound (λ (s : StarDef) (g : Found ℕ). (s.statement ≡ g.statement) × (nat_lt limit (size s) ≡ true) × (size s ≡ g.what)) rules.stars None
    → Never rules (OfStarTest rules (λ s. nat_lt limit (size s)))
no_size_found rules limit size none = λ j case. none case.0 (record { statement = j; what = size case.0 }) case.1 (case.2, case.3, refl)

-- a formula that fails offends at some node
pub offends_at : (d : FormulaDef) → is_some (first_offending d.formula) ≡ true → (n : ℕ) × (first_offending d.formula ≡ Some n)
offends_at d h = from (first_offending d.formula) refl h
  where
    from : (o : Option ℕ) → first_offending d.formula ≡ o → is_some o ≡ true → (n : ℕ) × (first_offending d.formula ≡ Some n)
    from None is none = absurd (false≢true none)
    from (Some n) is some = (n, is)

shown : (d : FormulaDef) (j : ℕ) (n : ℕ) → d.statement ≡ j → first_offending d.formula ≡ Some n
    → ShowsOffence d (record { statement = j; what = record { flavour = d.flavour; which = d.which; node = n } })
shown d j n is at = (is, refl, refl, at)

pub offence_found : (rules : RuleFile) (f : Found Offence) → IsFirstFound ShowsOffence rules.formulas (Some f)
    → (k : ℕ) × First rules (NotMonotone rules) k
    × OfFormula rules (λ d. (d.flavour ≡ f.what.flavour) × (d.which ≡ f.what.which) × (first_offending d.formula ≡ Some f.what.node)) k
offence_found rules f found = (
  f.statement,
  (
    (found.0.0, found.0.1, found.0.2.0, ap is_some found.0.2.3),
    (λ j case.
        let at = offends_at case.0 case.3 in
        found.1 case.0 (record { statement = j; what = record { flavour = case.0.flavour; which = case.0.which; node = at.0 } }) case.1 (shown case.0 j at.0 case.2 at.1)),
  ),
  (found.0.0, found.0.1, found.0.2.0, (found.0.2.1, found.0.2.2, found.0.2.3)),
)

pub no_offence_found : (rules : RuleFile) → IsFirstFound ShowsOffence rules.formulas None → Never rules (NotMonotone rules)
no_offence_found rules none =
    λ j case.
    let at = offends_at case.0 case.3 in
    none case.0 (record { statement = j; what = record { flavour = case.0.flavour; which = case.0.which; node = at.0 } }) case.1 (shown case.0 j at.0 case.2 at.1)

-- ---- the cases that are passed

beyond : {P : Type 0} (i n : ℕ) → n ≤ i → i < n → P
beyond i n least less = let no : ⊥ = omega (arith, least, less) in absurd no

pub passed_1 : (rules : RuleFile) → Never rules (Unknown rules) → Passed rules 1
passed_1 rules known = (
  (λ _. known),
  beyond 1 1 (omega arith),
  beyond 2 1 (omega arith),
  beyond 3 1 (omega arith),
  beyond 4 1 (omega arith),
  beyond 5 1 (omega arith),
  beyond 6 1 (omega arith),
  beyond 7 1 (omega arith),
  beyond 8 1 (omega arith),
  beyond 9 1 (omega arith),
)

pub passed_2 : (rules : RuleFile) → Never rules (Unknown rules) → Never rules (Twice rules) → Passed rules 2
passed_2 rules known once = (
  (λ _. known),
  (λ _. once),
  beyond 2 2 (omega arith),
  beyond 3 2 (omega arith),
  beyond 4 2 (omega arith),
  beyond 5 2 (omega arith),
  beyond 6 2 (omega arith),
  beyond 7 2 (omega arith),
  beyond 8 2 (omega arith),
  beyond 9 2 (omega arith),
)

pub passed_3 : (rules : RuleFile) → Never rules (Unknown rules) → Never rules (Twice rules) → Never rules (WrongArity rules) → Passed rules 3
passed_3 rules known once arity = (
  (λ _. known),
  (λ _. once),
  (λ _. arity),
  beyond 3 3 (omega arith),
  beyond 4 3 (omega arith),
  beyond 5 3 (omega arith),
  beyond 6 3 (omega arith),
  beyond 7 3 (omega arith),
  beyond 8 3 (omega arith),
  beyond 9 3 (omega arith),
)

pub passed_4 : (rules : RuleFile) → NamesPass rules → Passed rules 4
passed_4 rules names = (
  (λ _. names.known),
  (λ _. names.once),
  (λ _. names.arity),
  (λ _. names.kinds),
  beyond 4 4 (omega arith),
  beyond 5 4 (omega arith),
  beyond 6 4 (omega arith),
  beyond 7 4 (omega arith),
  beyond 8 4 (omega arith),
  beyond 9 4 (omega arith),
)

pub passed_5 : (rules : RuleFile) → NamesPass rules → Never rules (InCycle rules) → Passed rules 5
passed_5 rules names no_cycle = (
  (λ _. names.known),
  (λ _. names.once),
  (λ _. names.arity),
  (λ _. names.kinds),
  (λ _. no_cycle),
  beyond 5 5 (omega arith),
  beyond 6 5 (omega arith),
  beyond 7 5 (omega arith),
  beyond 8 5 (omega arith),
  beyond 9 5 (omega arith),
)

pub passed_6 : (rules : RuleFile) → NamesPass rules → ReferencesPass rules → Passed rules 6
passed_6 rules names references = (
  (λ _. names.known),
  (λ _. names.once),
  (λ _. names.arity),
  (λ _. names.kinds),
  (λ _. references.no_cycle),
  (λ _. references.no_glue_in_access),
  beyond 6 6 (omega arith),
  beyond 7 6 (omega arith),
  beyond 8 6 (omega arith),
  beyond 9 6 (omega arith),
)

pub passed_7 : (rules : RuleFile) → NamesPass rules → ReferencesPass rules → ((r : Root) → lacks_root rules r ≡ false) → Passed rules 7
passed_7 rules names references roots = (
  (λ _. names.known),
  (λ _. names.once),
  (λ _. names.arity),
  (λ _. names.kinds),
  (λ _. references.no_cycle),
  (λ _. references.no_glue_in_access),
  (λ _. roots),
  beyond 7 7 (omega arith),
  beyond 8 7 (omega arith),
  beyond 9 7 (omega arith),
)

pub passed_8 : (rules : RuleFile) → NamesPass rules → ReferencesPass rules → ((r : Root) → lacks_root rules r ≡ false) → ((f : Flavour) → lacks_formula rules f ≡ false)
    → Passed rules 8
passed_8 rules names references roots formulas = (
  (λ _. names.known),
  (λ _. names.once),
  (λ _. names.arity),
  (λ _. names.kinds),
  (λ _. references.no_cycle),
  (λ _. references.no_glue_in_access),
  (λ _. roots),
  (λ _. formulas),
  beyond 8 8 (omega arith),
  beyond 9 8 (omega arith),
)

pub passed_9 : (rules : RuleFile) → NamesPass rules → ReferencesPass rules → FormulasPass rules → Passed rules 9
passed_9 rules names references formulas = (
  (λ _. names.known),
  (λ _. names.once),
  (λ _. names.arity),
  (λ _. names.kinds),
  (λ _. references.no_cycle),
  (λ _. references.no_glue_in_access),
  (λ _. formulas.roots),
  (λ _. formulas.formulas),
  (λ _. formulas.monotone),
  beyond 9 9 (omega arith),
)

pub passed_10 : (rules : RuleFile) → NamesPass rules → ReferencesPass rules → FormulasPass rules → Never rules (TooTall rules) → Passed rules 10
passed_10 rules names references formulas low = (
  (λ _. names.known),
  (λ _. names.once),
  (λ _. names.arity),
  (λ _. names.kinds),
  (λ _. references.no_cycle),
  (λ _. references.no_glue_in_access),
  (λ _. formulas.roots),
  (λ _. formulas.formulas),
  (λ _. formulas.monotone),
  (λ _. low),
)

pub passes_none : (rules : RuleFile) (Passes : Type 0) (fault : Option RuleFault) → PassesOr rules Passes fault → fault ≡ None → Passes
passes_none rules Passes fault passes is = subst (PassesOr rules Passes) is passes
