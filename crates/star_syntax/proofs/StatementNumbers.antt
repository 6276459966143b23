-- The numbers of statements differ, and those behind the one that says the version are greater than its.
use Rattle.std.proofs.Common.{◌≡◌, ◌≤◌, ◌+◌, ℕ, true, not, nat_eq, nat_lt, List, [], ◌∷◌, ◌++◌, map, refl, sym, ◌∙◌, subst, arith, append_assoc}
use Rattle.std.specs.List.{list_all}
use Rattle.std.proofs.lemmas.Bool.{and_parts, and_from, eqb-true, false_from_ne_true, not_from_false, lt-ltb}
use Rattle.std.proofs.lemmas.List.Folds.{list_all-append}
use Rattle.star_model.specs.WellFormed.{differ}
use Rattle.star_model.specs.declared.rules.StarDef.{StarDef}
use Rattle.star_model.specs.declared.rules.FormulaDef.{FormulaDef}
use Rattle.star_model.specs.declared.rules.SelectDef.{SelectDef}
use Rattle.spelling.specs.Lexemes.{Lexeme}
use Rattle.spelling.specs.FormedLexemes.{every_both}
use Rattle.star_model.specs.Every.{Every}
use Rattle.rule_grammar.specs.Rules as rule
use Rattle.rule_grammar.specs.Rules.{SpellsDefinitions}

abbrev From : ℕ → List ℕ → Type 0
From n xs = Every (λ x. n ≤ x) xs

from_less : (n m : ℕ) (xs : List ℕ) → n ≤ m → From m xs → From n xs
from_less n m [] less from = tt
from_less n m (x ∷ xs) less from = (omega (arith, less, from.0), from_less n m xs less from.1)

other : (x y : ℕ) → (x ≡ y → ⊥) → not (nat_eq x y) ≡ true
other x y differ_ = not_from_false (nat_eq x y) (false_from_ne_true (nat_eq x y) (λ h. differ_ (eqb-true x y h)))

others : (n : ℕ) (xs : List ℕ) → From (n + 1) xs → list_all (λ y. not (nat_eq n y)) xs ≡ true
others n [] from = refl
others n (x ∷ xs) from = and_from (not (nat_eq n x)) (list_all (λ y. not (nat_eq n y)) xs) (other n x (λ h. omega (arith, h, from.0))) (others n xs from.1)

-- a number before the lists
put_first : (n : ℕ) (xs ys : List ℕ) → From (n + 1) xs → From (n + 1) ys → differ nat_eq (xs ++ ys) ≡ true → differ nat_eq (n ∷ (xs ++ ys)) ≡ true
put_first n xs ys first second d =
    let test = λ (y : ℕ). not (nat_eq n y) in
    and_from (list_all test (xs ++ ys)) (differ nat_eq (xs ++ ys)) (list_all-append test xs ys ∙ and_from (list_all test xs) (list_all test ys) (others n xs first) (others n ys second)) d

-- a number between the lists
put_between : (n : ℕ) (xs ys : List ℕ) → From (n + 1) xs → From (n + 1) ys → differ nat_eq (xs ++ ys) ≡ true → differ nat_eq (xs ++ n ∷ ys) ≡ true
put_between n [] ys first second d = put_first n [] ys first second d
put_between n (x ∷ xs) ys first second d =
    let test = λ (y : ℕ). not (nat_eq x y) in
    let both = and_parts (list_all test (xs ++ ys)) (differ nat_eq (xs ++ ys)) d in
    let parts = and_parts (list_all test xs) (list_all test ys) (sym (list_all-append test xs ys) ∙ both.0) in
    let here = other x n (λ h. omega (arith, h, first.0)) in
    and_from (list_all test (xs ++ n ∷ ys)) (differ nat_eq (xs ++ n ∷ ys))
    (list_all-append test xs (n ∷ ys) ∙ and_from (list_all test xs) (list_all test (n ∷ ys)) parts.0 (and_from (test n) (list_all test ys) here parts.1)) (put_between n xs ys first.1 second both.1)

abbrev select_numbers : List SelectDef → List ℕ
select_numbers selects = map (λ d. d.statement) selects

abbrev formula_numbers : List FormulaDef → List ℕ
formula_numbers formulas = map (λ d. d.statement) formulas

abbrev star_numbers : List StarDef → List ℕ
star_numbers stars = map (λ s. s.statement) stars

-- the numbers of these statements
pub record Numbers (n : ℕ) (selects : List SelectDef) (formulas : List FormulaDef) (stars : List StarDef) : Type 0 where
  pub of_selects : From n (select_numbers selects)
  pub of_formulas : From n (formula_numbers formulas)
  pub of_stars : From n (star_numbers stars)
  pub differ_ : differ nat_eq (select_numbers selects ++ (formula_numbers formulas ++ star_numbers stars)) ≡ true

pub numbers : {version n : ℕ} {lists : List (List Lexeme)} {selects : List SelectDef} {formulas : List FormulaDef} {stars : List StarDef}
    → SpellsDefinitions version n lists selects formulas stars → Numbers n selects formulas stars
numbers rule.none = record { of_selects = tt; of_formulas = tt; of_stars = tt; differ_ = refl }
numbers {n = n} (rule.select {d = d} {selects = selects} {formulas = formulas} {stars = stars} p h) =
    let later = numbers h in
    let fs = formula_numbers formulas in
    let ss = star_numbers stars in
    record {
      of_selects = (omega (arith, p.number), from_less n (n + 1) (select_numbers selects) (omega arith) later.of_selects);
      of_formulas = from_less n (n + 1) fs (omega arith) later.of_formulas;
      of_stars = from_less n (n + 1) ss (omega arith) later.of_stars;
      differ_ = rw p.number (put_first n (select_numbers selects) (fs ++ ss) later.of_selects (every_both (λ x. n + 1 ≤ x) fs ss later.of_formulas later.of_stars) later.differ_);
    }
numbers {n = n} (rule.formula {d = d} {selects = selects} {formulas = formulas} {stars = stars} p h) =
    let later = numbers h in
    let fs = formula_numbers formulas in
    let ss = star_numbers stars in
    record {
      of_selects = from_less n (n + 1) (select_numbers selects) (omega arith) later.of_selects;
      of_formulas = (omega (arith, p.number), from_less n (n + 1) fs (omega arith) later.of_formulas);
      of_stars = from_less n (n + 1) ss (omega arith) later.of_stars;
      differ_ = rw p.number (put_between n (select_numbers selects) (fs ++ ss) later.of_selects (every_both (λ x. n + 1 ≤ x) fs ss later.of_formulas later.of_stars) later.differ_);
    }
numbers {n = n} (rule.star {s = s} {selects = selects} {formulas = formulas} {stars = stars} p h) =
    let later = numbers h in
    let ds = select_numbers selects in
    let fs = formula_numbers formulas in
    let ss = star_numbers stars in
    let apart : differ nat_eq ((ds ++ fs) ++ ss) ≡ true = rw (append_assoc ds fs ss) later.differ_ in
    let put = put_between n (ds ++ fs) ss (every_both (λ x. n + 1 ≤ x) ds fs later.of_selects later.of_formulas) later.of_stars apart in
    record {
      of_selects = from_less n (n + 1) ds (omega arith) later.of_selects;
      of_formulas = from_less n (n + 1) fs (omega arith) later.of_formulas;
      of_stars = (omega (arith, p.number), from_less n (n + 1) ss (omega arith) later.of_stars);
      differ_ = rw p.number (subst (λ (l : List ℕ). differ nat_eq l ≡ true) (append_assoc ds fs (n ∷ ss)) put);
    }

-- behind the statement that says the version
after_first : (xs : List ℕ) → From 2 xs → list_all (nat_lt 1) xs ≡ true
after_first [] from = refl
after_first (x ∷ xs) from = and_from (nat_lt 1 x) (list_all (nat_lt 1) xs) (lt-ltb 1 x (omega (arith, from.0))) (after_first xs from.1)

pub all_after : (n : ℕ) (selects : List SelectDef) (formulas : List FormulaDef) (stars : List StarDef) → n ≡ 2 → Numbers n selects formulas stars
    → list_all (nat_lt 1) (select_numbers selects ++ (formula_numbers formulas ++ star_numbers stars)) ≡ true
all_after n selects formulas stars is numbers_ =
    let both = every_both (λ x. n ≤ x) (select_numbers selects) (formula_numbers formulas ++ star_numbers stars) numbers_.of_selects (every_both (λ x. n ≤ x) (formula_numbers formulas) (star_numbers stars) numbers_.of_formulas numbers_.of_stars) in
    after_first _ (from_less 2 n _ (omega (arith, is)) both)

-- only version 2 has selectivities
pub no_selects : {version n : ℕ} {lists : List (List Lexeme)} {selects : List SelectDef} {formulas : List FormulaDef} {stars : List StarDef}
    → SpellsDefinitions version n lists selects formulas stars → version ≡ 1 → selects ≡ []
no_selects rule.none one = refl
no_selects (rule.select p h) one = absurd (omega (arith, p.of_version, one))
no_selects (rule.formula p h) one = no_selects h one
no_selects (rule.star p h) one = no_selects h one
