-- Definitions that are sorted by their numbers are in order, where the numbers differ.
use Rattle.std.proofs.Common.{◌≡◌, ℕ, suc, ◌<◌, ◌≤◌, ◌⊎◌, inl, inr, Bool, true, false, not, nat_lt, nat_eq, if◌then◌else◌, List, [], ◌∷◌, ◌++◌, map, length, refl, sym, ap, ◌∙◌, subst, arith, append_assoc}
use Rattle.std.specs.List.{list_all, All}
use Rattle.std.specs.List.Sorted.{IsPermutation, IsNonDecreasingBy}
use Rattle.std.proofs.lemmas.Bool.{and_parts, not-true, eqb-false, ltb-true, ltb-false}
use Rattle.std.proofs.lemmas.List.Sorted.{IsPermutation-refl, IsPermutation-cons, IsPermutation-middle, IsPermutation-trans, IsPermutation-sym, IsPermutation-map, length_permutation, All-permutation}
use Rattle.std.proofs.lemmas.List.Elements.{All-nil, All-cons, All-head, All-tail}
use Rattle.std.proofs.lemmas.List.{map-append}
use Rattle.star_model.specs.WellFormed.{differ}
use Rattle.star_model.specs.Every.{Every}
use Rattle.star_model.specs.declared.rules.FormulaDef.{FormulaDef}
use Rattle.star_model.specs.declared.rules.SelectDef.{SelectDef}
use Rattle.star_model.specs.declared.rules.StarDef.{StarDef}
use Rattle.star_model.specs.declared.rules.RuleFile.{RuleFile}
use Rattle.rule_grammar.specs.Rules.{Definition, OfSelect, OfFormula, OfStar, number_of, put_in, in_order, definitions}
use Rattle.star_model.specs.WellFormedRules.{statement_numbers}
use Rattle.rule_printing.specs.declared.print.Statement.{Statement}
use Rattle.rule_printing.specs.Printing.{definition_of}

-- ---- a list that rises, within one that doesn't fall

abbrev IsAmong : Definition → List Definition → Type 0
IsAmong x [] = ⊥
IsAmong x (y ∷ ys) = (y ≡ x) ⊎ IsAmong x ys

abbrev Within : List Definition → List Definition → Type 0
Within xs ys = Every (λ x. IsAmong x ys) xs

abbrev Rises : List Definition → Type 0
Rises [] = Unit {0}
Rises (x ∷ xs) = Every (λ y. number_of x < number_of y) xs × Rises xs

abbrev NeverFalls : List Definition → Type 0
NeverFalls [] = Unit {0}
NeverFalls (x ∷ xs) = Every (λ y. number_of x ≤ number_of y) xs × NeverFalls xs

among_holds : (P : Definition → Type 0) (x : Definition) (ys : List Definition) → Every P ys → IsAmong x ys → P x
among_holds P x [] h k = absurd k
among_holds P x (y ∷ ys) h (inl e) = subst P e h.0
among_holds P x (y ∷ ys) h (inr k) = among_holds P x ys h.1 k

higher : (m n : ℕ) → m ≤ n → (xs : List Definition) → Every (λ x. n < number_of x) xs → Every (λ x. m < number_of x) xs
higher m n le [] above = tt
higher m n le (x ∷ xs) above = (omega (arith, le, above.0), higher m n le xs above.1)

-- where the first is none of them, they are among the others
without_first : (y : Definition) (xs ys : List Definition) → Every (λ x. number_of y < number_of x) xs → Within xs (y ∷ ys) → Within xs ys
without_first y [] ys above within = tt
without_first y (x ∷ xs) ys above within = (at within.0, without_first y xs ys above.1 within.1) where
  at : (y ≡ x) ⊎ IsAmong x ys → IsAmong x ys
  at (inl e) = absurd (omega (arith, above.0, ap number_of e))
  at (inr k) = k

-- it is no longer, and it is the same where it is as long
pub record Fits (xs ys : List Definition) : Type 0 where
  pub no_longer : length xs ≤ length ys
  pub same : length xs ≡ length ys → xs ≡ ys

fits : (xs ys : List Definition) → Rises xs → NeverFalls ys → Within xs ys → Fits xs ys
fits [] [] rises falls within = record { no_longer = omega arith; same = λ e. refl }
fits [] (y ∷ ys) rises falls within = record { no_longer = omega arith; same = λ e. absurd (omega (arith, e)) }
fits (x ∷ xs) [] rises falls within = absurd within.0
fits (x ∷ xs) (y ∷ ys) rises falls within = at within.0 (λ w. fits xs ys rises.1 falls.1 w) (λ w. fits (x ∷ xs) ys rises falls.1 w) where
  at : (y ≡ x) ⊎ IsAmong x ys → (Within xs ys → Fits xs ys) → (Within (x ∷ xs) ys → Fits (x ∷ xs) ys) → Fits (x ∷ xs) (y ∷ ys)
  at (inl e) both_less one_less =
      let above : Every (λ z. number_of y < number_of z) xs = subst (λ d. Every (λ z. number_of d < number_of z) xs) (sym e) rises.0 in
      let later = both_less (without_first y xs ys above within.1) in
      record { no_longer = omega (arith, later.no_longer); same = λ l. ap (λ d. d ∷ xs) (sym e) ∙ ap (λ l. y ∷ l) (later.same (omega (arith, l))) }
  at (inr k) both_less one_less =
      let below = among_holds (λ z. number_of y ≤ number_of z) x ys falls.0 k in
      let above = higher (number_of y) (number_of x) below xs rises.0 in
      let later = one_less (k, without_first y xs ys above within.1) in
      record { no_longer = omega (arith, later.no_longer); same = λ l. absurd (omega (arith, l, later.no_longer)) }

-- ---- the same definitions in another order

every_from : (P : Definition → Type 0) (xs : List Definition) → All P xs → Every P xs
every_from P [] h = tt
every_from P (x ∷ xs) h = (All-head P x xs h, every_from P xs (All-tail P x xs h))

all_from : (P : Definition → Type 0) (xs : List Definition) → Every P xs → All P xs
all_from P [] h = All-nil P
all_from P (x ∷ xs) h = All-cons P x xs h.0 (all_from P xs h.1)

moved : (P : Definition → Type 0) (xs ys : List Definition) → IsPermutation xs ys → Every P xs → Every P ys
moved P xs ys p h = every_from P ys (All-permutation P xs ys p (all_from P xs h))

within_more : (y : Definition) (xs ys : List Definition) → Within xs ys → Within xs (y ∷ ys)
within_more y [] ys h = tt
within_more y (x ∷ xs) ys h = (inr h.0, within_more y xs ys h.1)

within_itself : (xs : List Definition) → Within xs xs
within_itself [] = tt
within_itself (x ∷ xs) = (inl refl, within_more x xs xs (within_itself xs))

put_moves : (x : Definition) (ys : List Definition) → IsPermutation (x ∷ ys) (put_in x ys)
put_moves x [] = IsPermutation-refl (x ∷ [])
put_moves x (y ∷ ys) = at (nat_lt (number_of x) (number_of y)) (put_moves x ys) where
  at : (b : Bool) → IsPermutation (x ∷ ys) (put_in x ys) → IsPermutation (x ∷ y ∷ ys) (if b then x ∷ y ∷ ys else y ∷ put_in x ys)
  at true later = IsPermutation-refl (x ∷ y ∷ ys)
  at false later = IsPermutation-trans _ _ _ (IsPermutation-middle (x ∷ []) y ys) (IsPermutation-cons y (x ∷ ys) (put_in x ys) later)

order_moves : (xs : List Definition) → IsPermutation xs (in_order xs)
unfolding in_order
order_moves [] = IsPermutation-refl []
order_moves (x ∷ xs) = IsPermutation-trans _ _ _ (IsPermutation-cons x xs (in_order xs) (order_moves xs)) (put_moves x (in_order xs))

-- ---- where the numbers differ

abbrev IsOther : Definition → Definition → Type 0
IsOther x y = number_of x ≡ number_of y → ⊥

put_rises : (x : Definition) (ys : List Definition) → Rises ys → Every (IsOther x) ys → Rises (put_in x ys)
put_rises x [] rises others = (tt, tt)
put_rises x (y ∷ ys) rises others = at (nat_lt (number_of x) (number_of y)) refl (put_rises x ys rises.1 others.1) where
  at : (b : Bool) → nat_lt (number_of x) (number_of y) ≡ b → Rises (put_in x ys) → Rises (if b then x ∷ y ∷ ys else y ∷ put_in x ys)
  at true e later = let below = ltb-true (number_of x) (number_of y) e in ((below, higher (number_of x) (number_of y) (omega (arith, below)) ys rises.0), rises)
  at false e later =
      let no_lower = ltb-false (number_of x) (number_of y) e in
      let above : number_of y < number_of x = grind (arith, no_lower, others.0) in
      (moved (λ z. number_of y < number_of z) (x ∷ ys) (put_in x ys) (put_moves x ys) (above, rises.0), later)

others_from : (x : Definition) (ys : List Definition) → list_all (λ n. not (nat_eq (number_of x) n)) (map number_of ys) ≡ true → Every (IsOther x) ys
others_from x [] h = tt
others_from x (y ∷ ys) h =
    let parts = and_parts (not (nat_eq (number_of x) (number_of y))) (list_all (λ n. not (nat_eq (number_of x) n)) (map number_of ys)) h in
    (eqb-false (number_of x) (number_of y) (not-true _ parts.0), others_from x ys parts.1)

order_rises : (xs : List Definition) → differ nat_eq (map number_of xs) ≡ true → Rises (in_order xs)
unfolding in_order
order_rises [] h = tt
order_rises (x ∷ xs) h =
    let parts = and_parts (list_all (λ n. not (nat_eq (number_of x) n)) (map number_of xs)) (differ nat_eq (map number_of xs)) h in
    put_rises x (in_order xs) (order_rises xs parts.1) (moved (IsOther x) xs (in_order xs) (order_moves xs) (others_from x xs parts.0))

no_lower : {A : Type 0} (f : A → Definition) (m : ℕ) (xs : List A) → All (λ x. m ≤ number_of (f x)) xs → Every (λ y. m ≤ number_of y) (map f xs)
no_lower f m [] h = tt
no_lower f m (x ∷ xs) h = (All-head (λ z. m ≤ number_of (f z)) x xs h, no_lower f m xs (All-tail (λ z. m ≤ number_of (f z)) x xs h))

never_falls : {A : Type 0} (f : A → Definition) (xs : List A) → IsNonDecreasingBy (λ x. number_of (f x)) xs → NeverFalls (map f xs)
never_falls f [] h = tt
never_falls f (x ∷ xs) h =
    (no_lower f (number_of (f x)) xs (λ k d lt. h 0 (suc k) d (omega arith) (omega (arith, lt))), never_falls f xs (λ i j d le lt. h (suc i) (suc j) d (omega (arith, le)) (omega (arith, lt))))

sorted_is_in_order : (xs ys : List Definition) → differ nat_eq (map number_of xs) ≡ true → IsPermutation xs ys → NeverFalls ys → ys ≡ in_order xs
sorted_is_in_order xs ys numbers_differ permuted sorted =
    let from_order : IsPermutation (in_order xs) ys = IsPermutation-trans _ _ _ (IsPermutation-sym xs (in_order xs) (order_moves xs)) permuted in
    let within = moved (λ x. IsAmong x ys) ys (in_order xs) (IsPermutation-sym (in_order xs) ys from_order) (within_itself ys) in
    sym ((fits (in_order xs) ys (order_rises xs numbers_differ) sorted within).same (sym (length_permutation (in_order xs) ys from_order)))

-- ---- the statements of a rule file

select_numbers : (selects : List SelectDef) → map number_of (map OfSelect selects) ≡ map (λ d. d.statement) selects
select_numbers [] = refl
select_numbers (d ∷ selects) = ap (λ l. d.statement ∷ l) (select_numbers selects)

formula_numbers : (formulas : List FormulaDef) → map number_of (map OfFormula formulas) ≡ map (λ d. d.statement) formulas
formula_numbers [] = refl
formula_numbers (d ∷ formulas) = ap (λ l. d.statement ∷ l) (formula_numbers formulas)

star_numbers : (stars : List StarDef) → map number_of (map OfStar stars) ≡ map (λ s. s.statement) stars
star_numbers [] = refl
star_numbers (s ∷ stars) = ap (λ l. s.statement ∷ l) (star_numbers stars)

-- the definitions of a rule file, list by list
abbrev pub listed : RuleFile → List Definition
listed rules = map OfSelect rules.selects ++ (map OfFormula rules.formulas ++ map OfStar rules.stars)

numbers_are : (rules : RuleFile) → map number_of (listed rules) ≡ statement_numbers rules
numbers_are rules =
    let formulas : List Definition = map OfFormula rules.formulas in
    let stars : List Definition = map OfStar rules.stars in
    map-append number_of (map OfSelect rules.selects) (formulas ++ stars)
    ∙ ap (λ l. l ++ map number_of (formulas ++ stars)) (select_numbers rules.selects)
    ∙ ap (λ l. map (λ d. d.statement) rules.selects ++ l) (
    map-append number_of formulas stars
    ∙ ap (λ l. l ++ map number_of stars) (formula_numbers rules.formulas)
    ∙ ap (λ l. map (λ d. d.statement) rules.formulas ++ l) (star_numbers rules.stars))

pub gathered : (selects formulas stars first second third : List Definition) → first ≡ selects → second ≡ first ++ formulas → third ≡ second ++ stars
    → third ≡ selects ++ (formulas ++ stars)
gathered selects formulas stars first second third a b c =
    c ∙ ap (λ l. l ++ stars) (b ∙ ap (λ l. l ++ formulas) a) ∙ append_assoc selects formulas stars

pub sorted_statements : (rules : RuleFile) (before after : List Statement) → differ nat_eq (statement_numbers rules) ≡ true
    → map definition_of before ≡ listed rules → IsPermutation before after → IsNonDecreasingBy (λ s. number_of (definition_of s)) after
    → map definition_of after ≡ definitions rules.selects rules.formulas rules.stars
sorted_statements rules before after numbers_differ all permuted sorted =
    sorted_is_in_order (listed rules) (map definition_of after) (ap (differ nat_eq) (numbers_are rules) ∙ numbers_differ)
    (subst (λ l. IsPermutation l (map definition_of after)) all (IsPermutation-map definition_of before after permuted)) (never_falls definition_of after sorted)
