-- In a file without STARs twice, each STAR is the one of its name; in one without unknown STARs, each reference is known.
use Prim.Native.Nat.{zero, suc}
use Rattle.std.proofs.Common.{◌≡◌, ℕ, ◌<◌, inl, inr, Bool, true, false, if◌then◌else◌, not, ◌||◌, nat_eq, nat_lt, List, [], ◌∷◌, ◌++◌, length, map, take, get_or, refl, ap, sym, ◌∙◌, arith}
use Rattle.std.specs.Prelude.{◌&&◌, Some, None, is_none, slice_get, Contains}
use Rattle.std.specs.List.{list_any, list_all, flat_map}
use Rattle.std.specs.Option.{option_map}
use Rattle.std.proofs.Math.Bool.{or-true}
use Rattle.std.proofs.lemmas.Bool.{false≢true, eq-eqb, cases_lt, lt-ltb, and_parts, or_parts}
use Rattle.std.proofs.lemmas.List.Folds.{list_all-append}
use Rattle.std.proofs.lemmas.Cmp.{nat_eq_equiv}
use Rattle.std.proofs.lemmas.Option.{same_Some, none-some, slice_get-map, slice_get-get_or, slice_get_within, get_or_from_slice_get}
use Rattle.star_model.specs.Stars.{star_named}
use Rattle.star_model.specs.Vectors.{same_numbers}
use Rattle.star_model.specs.Costs.{row_of, same_flavour, same_which, formula_of}
use Rattle.star_model.specs.Selectivity.{place_of_class, same_class, select_of}
use Rattle.star_model.specs.declared.rules.Flavour.{Flavour}
use Rattle.star_model.specs.declared.rules.Class.{Class}
use Rattle.star_model.specs.declared.rules.Which.{Which}
use Rattle.star_model.specs.declared.rules.Which.TheVariants.{Cost, Rescan}
use Rattle.star_model.specs.WellFormed.{differ}
use Rattle.star_model.specs.Accepted.{Never, Unknown, Twice, is_unknown, is_star_twice, is_formula_twice, is_select_twice, references_of, variables_in, values_of_alternative, repeats, parameters_of}
use Rattle.star_model.specs.declared.rules.StarDef.{StarDef}
use Rattle.star_model.specs.declared.rules.FormulaDef.{FormulaDef}
use Rattle.star_model.specs.declared.rules.SelectDef.{SelectDef}
use Rattle.star_model.specs.declared.rules.RuleFile.{RuleFile}
use Rattle.star_model.specs.WellFormedRules.{WellFormedRules}
use Rattle.star_check.specs.Owning.{NamesAreOwn, NamesAreKnown, FormulasAreOwn, SelectsAreOwn}
use Rattle.star_check.proofs.Places.{Place, place, find_passes, find_none}
use Rattle.star_model.proofs.Laws.{same_are, same_self}

pub fails : (b : Bool) → (b ≡ true → ⊥) → b ≡ false
fails true never = absurd (never refl)
fails false never = refl

pub any_at : {A : Type 0} (p : A → Bool) (xs : List A) (i : ℕ) (x : A) → slice_get xs i ≡ Some x → p x ≡ true → list_any p xs ≡ true
any_at p [] i x at h = absurd (none-some x at)
any_at p (y ∷ ys) zero x at h = ap (λ b. b || list_any p ys) (ap p (same_Some y x at) ∙ h)
any_at p (y ∷ ys) (suc i) x at h = ap (λ b. p y || b) (any_at p ys i x at h) ∙ or-true (p y)

pub contains_at : {A : Type 0} (xs : List A) (i : ℕ) (x : A) → slice_get xs i ≡ Some x → Contains xs x
contains_at xs i x at = (i, slice_get_within xs i x at, get_or_from_slice_get xs i x x at)

-- ---- statements have numbers of their own

later_differs : (k : ℕ) (ks : List ℕ) (i j : ℕ) → list_all (λ y. not (nat_eq k y)) ks ≡ true → slice_get ks i ≡ Some j → k ≡ j → ⊥
later_differs k [] i j all at is = none-some j at
later_differs k (y ∷ ys) zero j all at is =
    let same : k ≡ y = is ∙ sym (same_Some y j at) in
    let parts = and_parts (not (nat_eq k y)) (list_all (λ y. not (nat_eq k y)) ys) all in
    false≢true (sym (ap not (eq-eqb k y same)) ∙ parts.0)
later_differs k (y ∷ ys) (suc i) j all at is = later_differs k ys i j (and_parts (not (nat_eq k y)) (list_all (λ y. not (nat_eq k y)) ys) all).1 at is

differ_back : (xs ys : List ℕ) → differ nat_eq (xs ++ ys) ≡ true → differ nat_eq ys ≡ true
differ_back [] ys h = h
differ_back (x ∷ xs) ys h = differ_back xs ys (and_parts (list_all (λ y. not (nat_eq x y)) (xs ++ ys)) (differ nat_eq (xs ++ ys)) h).1

mapped : {A : Type 0} (key : A → ℕ) (xs : List A) (i : ℕ) (x : A) → slice_get xs i ≡ Some x → slice_get (map key xs) i ≡ Some (key x)
mapped key xs i x at = slice_get-map key xs i ∙ ap (option_map key) at

pub one_place : {A : Type 0} (key : A → ℕ) (xs : List A) (i j : ℕ) (x y : A) → differ nat_eq (map key xs) ≡ true → slice_get xs i ≡ Some x → slice_get xs j ≡ Some y → key x ≡ key y
    → i ≡ j
one_place key [] i j x y h at_x at_y is = absurd (none-some x at_x)
one_place key (u ∷ us) zero zero x y h at_x at_y is = refl
one_place key (u ∷ us) zero (suc j) x y h at_x at_y is =
    let parts = and_parts (list_all (λ k. not (nat_eq (key u) k)) (map key us)) (differ nat_eq (map key us)) h in
    absurd (later_differs (key u) (map key us) j (key y) parts.0 (mapped key us j y at_y) (ap key (same_Some u x at_x) ∙ is))
one_place key (u ∷ us) (suc i) zero x y h at_x at_y is =
    let parts = and_parts (list_all (λ k. not (nat_eq (key u) k)) (map key us)) (differ nat_eq (map key us)) h in
    absurd (later_differs (key u) (map key us) i (key x) parts.0 (mapped key us i x at_x) (ap key (same_Some u y at_y) ∙ sym is))
one_place key (u ∷ us) (suc i) (suc j) x y h at_x at_y is =
    ap suc (one_place key us i j x y (and_parts (list_all (λ k. not (nat_eq (key u) k)) (map key us)) (differ nat_eq (map key us)) h).1 at_x at_y is)

differ_front : (xs ys : List ℕ) → differ nat_eq (xs ++ ys) ≡ true → differ nat_eq xs ≡ true
differ_front [] ys h = refl
differ_front (x ∷ xs) ys h =
    let parts = and_parts (list_all (λ k. not (nat_eq x k)) (xs ++ ys)) (differ nat_eq (xs ++ ys)) h in
    let front = and_parts (list_all (λ k. not (nat_eq x k)) xs) (list_all (λ k. not (nat_eq x k)) ys) (sym (list_all-append (λ k. not (nat_eq x k)) xs ys) ∙ parts.0) in
    (λ i. front.0 i && differ_front xs ys parts.1 i)

-- those of selectivities, of formulas and of STARs, among all
selects_differ : (rules : RuleFile) → WellFormedRules rules → differ nat_eq (map (λ d. d.statement) rules.selects) ≡ true
selects_differ rules formed =
    differ_front
    (map (λ d. d.statement) rules.selects)
    (map (λ d. d.statement) rules.formulas ++ map (λ s. s.statement) rules.stars)
    formed.numbers_differ

others_differ : (rules : RuleFile) → WellFormedRules rules → differ nat_eq (map (λ d. d.statement) rules.formulas ++ map (λ s. s.statement) rules.stars) ≡ true
others_differ rules formed =
    differ_back
    (map (λ d. d.statement) rules.selects)
    (map (λ d. d.statement) rules.formulas ++ map (λ s. s.statement) rules.stars)
    formed.numbers_differ

pub formulas_differ : (rules : RuleFile) → WellFormedRules rules → differ nat_eq (map (λ d. d.statement) rules.formulas) ≡ true
formulas_differ rules formed = differ_front (map (λ d. d.statement) rules.formulas) (map (λ s. s.statement) rules.stars) (others_differ rules formed)

pub stars_differ : (rules : RuleFile) → WellFormedRules rules → differ nat_eq (map (λ s. s.statement) rules.stars) ≡ true
stars_differ rules formed = differ_back (map (λ d. d.statement) rules.formulas) (map (λ s. s.statement) rules.stars) (others_differ rules formed)

-- a STAR that an earlier statement defines is defined twice
twice_from : (rules : RuleFile) (i j : ℕ) (s t : StarDef) → slice_get rules.stars i ≡ Some s → slice_get rules.stars j ≡ Some t → t.statement < s.statement → t.name ≡ s.name
    → Never rules (Twice rules) → ⊥
twice_from rules i j s t at_s at_t less name once =
    let earlier : list_any (λ u. nat_lt u.statement s.statement && same_numbers u.name s.name) rules.stars ≡ true =
    any_at
    (λ u. nat_lt u.statement s.statement && same_numbers u.name s.name)
    rules.stars
    j
    t
    at_t
    ((λ k. lt-ltb t.statement s.statement less k && same_numbers (name k) s.name) ∙ same_self s.name) in
    let twice : is_star_twice rules s ≡ true =
    ap
    (λ b. (b || repeats rules [] (parameters_of rules s)) || list_any (λ a. repeats rules (parameters_of rules s) (map (λ f. f.name) a.ranges)) s.alternatives)
    earlier in
    once s.statement (inl (s, contains_at rules.stars i s at_s, refl, twice))

pub names_are_own : (rules : RuleFile) → WellFormedRules rules → Never rules (Twice rules) → NamesAreOwn rules
names_are_own rules formed once = record { own = λ i s at. from i s at (place (λ t. same_numbers t.name s.name) rules.stars) }
  where
    from : (i : ℕ) (s : StarDef) → slice_get rules.stars i ≡ Some s → Place (λ (t : StarDef). same_numbers t.name s.name) rules.stars → star_named rules s.name ≡ Some s
    from i s at (Place.nowhere is none) = absurd (find_none (λ t. same_numbers t.name s.name) rules.stars i s none at (same_self s.name))
    from i s at (Place.stands j t is at_t found) =
        let name : t.name ≡ s.name = same_are t.name s.name (find_passes (λ u. same_numbers u.name s.name) rules.stars t found) in
        elim (cases_lt t.statement s.statement) [
          | inl less ↦ absurd (twice_from rules i j s t at at_t less name once)
          | inr ge ↦
              elim (cases_lt s.statement t.statement) [
                | inl more ↦ absurd (twice_from rules j i t s at_t at more (sym name) once)
                | inr le ↦
                    let place : j ≡ i = one_place (λ u. u.statement) rules.stars j i t s (stars_differ rules formed) at_t at (omega (arith, ge, le)) in
                    found ∙ sym at_t ∙ ap (slice_get rules.stars) place ∙ at
              ]
        ]

pub names_are_known : (rules : RuleFile) → Never rules (Unknown rules) → NamesAreKnown rules
names_are_known rules known = record {
  known = λ i s at.
      (or_parts
      (list_any (λ r. is_none (star_named rules r.0)) (references_of s))
      (list_any (nat_eq 255) (flat_map variables_in (flat_map values_of_alternative s.alternatives)))
      (fails (is_unknown rules s) (λ h. known s.statement (s, contains_at rules.stars i s at, refl, h)))).0;
}

-- ---- formulas

same_flavour_turned : (f g : Flavour) → same_flavour f g ≡ same_flavour g f
same_flavour_turned f g = nat_eq_equiv.symm (row_of f) (row_of g)

same_which_turned : (v w : Which) → same_which v w ≡ same_which w v
same_which_turned Cost Cost = refl
same_which_turned Cost Rescan = refl
same_which_turned Rescan Cost = refl
same_which_turned Rescan Rescan = refl

formula_twice : (rules : RuleFile) (i j : ℕ) (d e : FormulaDef) → slice_get rules.formulas i ≡ Some d → slice_get rules.formulas j ≡ Some e → e.statement < d.statement
    → (same_flavour e.flavour d.flavour && same_which e.which d.which) ≡ true → Never rules (Twice rules) → ⊥
formula_twice rules i j d e at_d at_e less same once =
    let parts = and_parts (same_flavour e.flavour d.flavour) (same_which e.which d.which) same in
    let twice : is_formula_twice rules d ≡ true =
    any_at
    (λ u. (nat_lt u.statement d.statement && same_flavour u.flavour d.flavour) && same_which u.which d.which)
    rules.formulas
    j
    e
    at_e
    (λ k. (lt-ltb e.statement d.statement less k && parts.0 k) && parts.1 k) in
    once d.statement (inr (inl (d, contains_at rules.formulas i d at_d, refl, twice)))

pub formulas_are_own : (rules : RuleFile) → WellFormedRules rules → Never rules (Twice rules) → FormulasAreOwn rules.formulas
formulas_are_own rules formed once = record { own = own }
  where
    own : (i j : ℕ) (d e : FormulaDef) → slice_get rules.formulas i ≡ Some d → slice_get rules.formulas j ≡ Some e
        → (same_flavour e.flavour d.flavour && same_which e.which d.which) ≡ true → i ≡ j
    own i j d e at_d at_e same =
        elim (cases_lt e.statement d.statement) [
          | inl less ↦ absurd (formula_twice rules i j d e at_d at_e less same once)
          | inr ge ↦
              elim (cases_lt d.statement e.statement) [
                | inl more ↦
                    absurd
                    (formula_twice
                    rules
                    j
                    i
                    e
                    d
                    at_e
                    at_d
                    more
                    ((λ k. same_flavour_turned d.flavour e.flavour k && same_which_turned d.which e.which k) ∙ same)
                    once)
                | inr le ↦
                    one_place
                    (λ u. u.statement)
                    rules.formulas
                    i
                    j
                    d
                    e
                    (formulas_differ rules formed)
                    at_d
                    at_e
                    (omega (arith, ge, le))
              ]
        ]

taken : {A : Type 0} (xs : List A) (i j : ℕ) (x : A) → slice_get (take i xs) j ≡ Some x → (j < i) × (slice_get xs j ≡ Some x)
taken [] zero j x at = absurd (none-some x at)
taken [] (suc i) j x at = absurd (none-some x at)
taken (y ∷ ys) zero j x at = absurd (none-some x at)
taken (y ∷ ys) (suc i) zero x at = (omega arith, at)
taken (y ∷ ys) (suc i) (suc j) x at = let later = taken ys i j x at in (let l = later.0 in omega (arith, l), later.1)

-- no formula of the list is of this operator and cost
none_of : (f : Flavour) (w : Which) (es : List FormulaDef) → ((j : ℕ) (e : FormulaDef) → slice_get es j ≡ Some e → (same_flavour e.flavour f && same_which e.which w) ≡ true → ⊥)
    → formula_of (map (λ e. record { flavour = e.flavour; which = e.which; formula = e.formula }) es) f w ≡ None
unfolding formula_of
none_of f w [] others = refl
none_of f w (e ∷ es) others =
    step (same_flavour e.flavour f && same_which e.which w) refl (none_of f w es (λ j d at same. others (suc j) d at same))
  where
    step : (b : Bool) → (same_flavour e.flavour f && same_which e.which w) ≡ b
        → formula_of (map (λ d. record { flavour = d.flavour; which = d.which; formula = d.formula }) es) f w ≡ None
        → (if b then Some e.formula else formula_of (map (λ d. record { flavour = d.flavour; which = d.which; formula = d.formula }) es) f w) ≡ None
    step true is later = absurd (others 0 e refl is)
    step false is later = later

-- no formula among the first ones is of the operator and cost of the next
pub no_formula_yet : (ds : List FormulaDef) (i : ℕ) (d : FormulaDef) → FormulasAreOwn ds → i < length ds → d ≡ get_or ds i d
    → formula_of (map (λ e. record { flavour = e.flavour; which = e.which; formula = e.formula }) (take i ds)) d.flavour d.which ≡ None
no_formula_yet ds i d own below is = none_of d.flavour d.which (take i ds) differs
  where
    differs : (j : ℕ) (e : FormulaDef) → slice_get (take i ds) j ≡ Some e → (same_flavour e.flavour d.flavour && same_which e.which d.which) ≡ true → ⊥
    differs j e at same =
        let here = taken ds i j e at in
        let less : j < i = here.0 in
        let place : i ≡ j = own.own i j d e (slice_get-get_or ds i d below ∙ ap Some (sym is)) here.1 same in
        omega (arith, less, place)

-- ---- selectivities

same_class_turned : (c d : Class) → same_class c d ≡ same_class d c
same_class_turned c d = nat_eq_equiv.symm (place_of_class c) (place_of_class d)

select_twice : (rules : RuleFile) (i j : ℕ) (d e : SelectDef) → slice_get rules.selects i ≡ Some d → slice_get rules.selects j ≡ Some e → e.statement < d.statement
    → same_class e.class d.class ≡ true → Never rules (Twice rules) → ⊥
select_twice rules i j d e at_d at_e less same once =
    let twice : is_select_twice rules d ≡ true =
    any_at
    (λ u. nat_lt u.statement d.statement && same_class u.class d.class)
    rules.selects
    j
    e
    at_e
    (λ k. lt-ltb e.statement d.statement less k && same k) in
    once d.statement (inr (inr (d, contains_at rules.selects i d at_d, refl, twice)))

pub selects_are_own : (rules : RuleFile) → WellFormedRules rules → Never rules (Twice rules) → SelectsAreOwn rules.selects
selects_are_own rules formed once = record { own = own }
  where
    own : (i j : ℕ) (d e : SelectDef) → slice_get rules.selects i ≡ Some d → slice_get rules.selects j ≡ Some e → same_class e.class d.class ≡ true → i ≡ j
    own i j d e at_d at_e same =
        elim (cases_lt e.statement d.statement) [
          | inl less ↦ absurd (select_twice rules i j d e at_d at_e less same once)
          | inr ge ↦
              elim (cases_lt d.statement e.statement) [
                | inl more ↦ absurd (select_twice rules j i e d at_e at_d more (same_class_turned d.class e.class ∙ same) once)
                | inr le ↦ one_place (λ u. u.statement) rules.selects i j d e (selects_differ rules formed) at_d at_e (omega (arith, ge, le))
              ]
        ]

-- no selectivity of the list is of this class
none_of_class : (c : Class) (es : List SelectDef) → ((j : ℕ) (e : SelectDef) → slice_get es j ≡ Some e → same_class e.class c ≡ true → ⊥)
    → select_of (map (λ e. record { class = e.class; num = e.num; den = e.den }) es) c ≡ None
unfolding select_of
none_of_class c [] others = refl
none_of_class c (e ∷ es) others = step (same_class e.class c) refl (none_of_class c es (λ j d at same. others (suc j) d at same))
  where
    step : (b : Bool) → same_class e.class c ≡ b → select_of (map (λ d. record { class = d.class; num = d.num; den = d.den }) es) c ≡ None
        → (if b then Some (record { class = e.class; num = e.num; den = e.den }) else select_of (map (λ d. record { class = d.class; num = d.num; den = d.den }) es) c) ≡ None
    step true is later = absurd (others 0 e refl is)
    step false is later = later

-- no selectivity among the first ones is of the class of the next
pub no_select_yet : (ds : List SelectDef) (i : ℕ) (d : SelectDef) → SelectsAreOwn ds → i < length ds → d ≡ get_or ds i d
    → select_of (map (λ e. record { class = e.class; num = e.num; den = e.den }) (take i ds)) d.class ≡ None
no_select_yet ds i d own below is = none_of_class d.class (take i ds) differs
  where
    differs : (j : ℕ) (e : SelectDef) → slice_get (take i ds) j ≡ Some e → same_class e.class d.class ≡ true → ⊥
    differs j e at same =
        let here = taken ds i j e at in
        let less : j < i = here.0 in
        let place : i ≡ j = own.own i j d e (slice_get-get_or ds i d below ∙ ap Some (sym is)) here.1 same in
        omega (arith, less, place)
