-- What spells a plan is read as it, whatever follows.
use Rattle.std.proofs.Common.{◌≡◌, ℕ, zero, suc, ◌+◌, ◌<◌, Bool, true, false, if◌then◌else◌, List, [], ◌∷◌, ◌++◌, map, length, Some, codes, refl, sym, ap, ◌∙◌, arith, length-append, eq-eqb}
use Rattle.std.specs.Prelude.{nat_eq}
use Rattle.star_model.specs.PlanExprCases as expr
use Rattle.star_model.specs.Vectors.{same_numbers}
use Rattle.star_model.specs.declared.rules.PlanExpr.{PlanExpr}
use Rattle.star_model.specs.declared.rules.PlanExpr.TheVariants as plain
use Rattle.star_model.specs.declared.rules.ValueExpr.{ValueExpr}
use Rattle.star_model.specs.declared.rules.Flavour.{Flavour}
use Rattle.star_model.specs.declared.rules.Flavour.TheVariants as flavour
use Rattle.spelling.specs.Lexemes.{Lexeme, comma, right_bracket, bracketed, joined_by, call}
use Rattle.star_model.specs.Every.{Every, HasItem}
use Rattle.star_model.specs.FlavourWords.{flavour_word, flavour_of, flavour_in}
use Rattle.star_model.specs.Kinds.{inputs_of}
use Rattle.star_model.specs.WellFormedRules.{Scope, is_reserved, IsName, IsValue, arguments_of, IsOperator, IsPlan}
use Rattle.rule_grammar.specs.Values.{value_lexemes}
use Rattle.rule_grammar.specs.Rules.{plan_lexemes}
use Rattle.spelling.specs.Reading.{Reader, ◌>>=◌, given, the_symbol}
use Rattle.spelling.specs.SeriesReadingCases.{IsRead, series_read, each_short}
use Rattle.rule_grammar.specs.RuleWords.{name_of}
use Rattle.rule_grammar.specs.ValueReading.{NoSquare, value_at}
use Rattle.rule_grammar.specs.PlanReading.{arguments_at, own_arguments_at, more_arguments_at, reference_at, glue_at, leaf_at, unary_at, inputs_at, joined_at, binary_at, behind_word, plan_by, plan_at}
use Rattle.spelling.proofs.Laws.{the_symbol_reads}
use Rattle.rule_grammar.proofs.RuleWordLaws.{flavour_named, no_flavour, name_given}
use Rattle.rule_grammar.proofs.ValueReading.{value_is_read}
use Rattle.rule_grammar.proofs.Bracketed.{one_ends, two_ends}
use Rattle.rule_grammar.proofs.PlanBrackets.{values, further, behind_one, values_within, unary_ends, binary_ends}
use Rattle.star_model.proofs.Laws.{same_are}

-- a name isn't a reserved word
not_word : (version : ℕ) (name word : List ℕ) → IsName version name → is_reserved version word ≡ true → same_numbers name word ≡ false
not_word version name word free reserved = at (same_numbers name word) refl
  where
    at : (test : Bool) → same_numbers name word ≡ test → same_numbers name word ≡ false
    at true is =
        let taken : is_reserved version name ≡ true = rw (same_are name word is) reserved in
        let bad : true ≡ false = sym taken ∙ free in
        cc
    at false is = is

-- ---- arguments

-- an operator over no plan has arguments
some_arguments : (f : Flavour) → inputs_of f ≡ 0 → 0 < arguments_of f
some_arguments flavour.AccessHeap takes = omega arith
some_arguments flavour.AccessIndex takes = omega arith
some_arguments flavour.Get takes = absurd (omega (arith, takes))
some_arguments flavour.Filter takes = absurd (omega (arith, takes))
some_arguments flavour.Sort takes = absurd (omega (arith, takes))
some_arguments flavour.Store takes = absurd (omega (arith, takes))
some_arguments flavour.Ship takes = absurd (omega (arith, takes))
some_arguments flavour.Probe takes = absurd (omega (arith, takes))
some_arguments flavour.JoinNl takes = absurd (omega (arith, takes))
some_arguments flavour.JoinMerge takes = absurd (omega (arith, takes))
some_arguments flavour.JoinHash takes = absurd (omega (arith, takes))
some_arguments flavour.Intersect takes = absurd (omega (arith, takes))

not_zero : (n m : ℕ) → suc m ≡ n → nat_eq n 0 ≡ false
not_zero n m is = grind arith

has_item : {A : Type 0} (xs : List A) → 0 < length xs → HasItem xs
has_item [] h = absurd (omega arith)
has_item (x ∷ xs) h = tt

-- ---- lengths

call_length : (word : List ℕ) (items : List (List Lexeme)) → length (call word items) ≡ length (joined_by comma items) + 3
call_length word items = omega (arith, length-append (joined_by comma items) (right_bracket ∷ []))

more_length : (a : List Lexeme) (xs : List ValueExpr) → length (joined_by comma (a ∷ map value_lexemes xs)) ≡ length a + length (further xs)
more_length a xs = ap (λ (l : List Lexeme). length l) (behind_one a xs) ∙ length-append a (further xs)

-- ---- the parts of a plan

module _ (scope : Scope) (n : ℕ) (value : Reader ValueExpr) (one : IsRead value value_lexemes (λ v. IsValue scope v × (length (value_lexemes v) < n)) NoSquare) where
  arguments_read : (xs : List ValueExpr) (rest : List Lexeme) → HasItem xs → Every (IsValue scope) xs → length (values xs) < n → arguments_at value (values xs ++ right_bracket ∷ rest) ≡ Some (xs, right_bracket ∷ rest)
  unfolding arguments_at
  arguments_read xs rest some stand few =
      series_read value value_lexemes (λ v. IsValue scope v × (length (value_lexemes v) < n)) (the_symbol (codes ",")) comma (the_symbol_reads (codes ",")) NoSquare one (λ rest. refl)
      xs (right_bracket ∷ rest) some (each_short value_lexemes (IsValue scope) comma n xs stand few) refl refl

  own_read : (k : ℕ) (f : Flavour) (xs : List ValueExpr) (rest : List Lexeme) → HasItem xs → IsOperator scope k f xs → length (values xs) < n → own_arguments_at value f (values xs ++ right_bracket ∷ rest) ≡ Some (xs, rest)
  unfolding own_arguments_at
  own_read k f xs rest some is few =
      rw (arguments_read xs rest some is.values few) (rw (eq-eqb (length xs) (arguments_of f) is.count) refl)

  more_read : (k : ℕ) (f : Flavour) (xs : List ValueExpr) (rest : List Lexeme) → IsOperator scope k f xs → length (values xs) < n → more_arguments_at value f (further xs ++ right_bracket ∷ rest) ≡ Some (xs, rest)
  unfolding more_arguments_at
  more_read k f [] rest is few = rw (eq-eqb (arguments_of f) 0 (sym is.count)) refl
  more_read k f (x ∷ xs) rest is few =
      rw (not_zero (arguments_of f) (length xs) is.count) (own_read k f (x ∷ xs) rest tt is few)

  reference_read : (star : List ℕ) (xs : List ValueExpr) (rest : List Lexeme) → HasItem xs → Every (IsValue scope) xs → length (values xs) < n
      → reference_at value star (bracketed (values xs) ++ rest) ≡ Some (plain.Reference star xs, rest)
  unfolding reference_at
  reference_read star xs rest some stand few = rw (one_ends (values xs) rest) (rw (arguments_read xs rest some stand few) refl)

  -- `inner` reads what stands inside
  module _ (inner : Reader PlanExpr) where
    reference_by : (star : List ℕ) (xs : List ValueExpr) (rest : List Lexeme) → IsName scope.version star → HasItem xs → Every (IsValue scope) xs → length (values xs) < n
        → plan_by value inner scope.version (plan_lexemes (plain.Reference star xs) ++ rest) ≡ Some (plain.Reference star xs, rest)
    unfolding plan_by plan_lexemes
    reference_by star xs rest name some stand few =
        let behind : List Lexeme = bracketed (values xs) ++ rest in
        ap (λ f. behind_word value inner scope.version star f behind) (no_flavour scope.version star name)
        ∙ ap (λ test. if test then glue_at value behind else (given (name_of scope.version star) >>= reference_at value) behind) (not_word scope.version star (codes "Glue") name refl)
        ∙ ap (λ found. (given found >>= reference_at value) behind) (name_given scope.version star name) ∙ reference_read star xs rest some stand few

    glue_by : (t v : ValueExpr) (rest : List Lexeme) → IsValue scope t → IsValue scope v → length (value_lexemes t) < n → length (value_lexemes v) < n
        → plan_by value inner scope.version (plan_lexemes (plain.Glue t v) ++ rest) ≡ Some (plain.Glue t v, rest)
    unfolding plan_by plan_lexemes glue_at flavour_in flavour_of
    glue_by t v rest first second few fewer =
        rw (two_ends (value_lexemes t) (value_lexemes v) rest) (
        rw (one t (comma ∷ (value_lexemes v ++ right_bracket ∷ rest)) (first, few) refl) (rw (one v (right_bracket ∷ rest) (second, fewer) refl) refl))

    leaf_by : (f : Flavour) (xs : List ValueExpr) (rest : List Lexeme) → IsOperator scope 0 f xs → length (values xs) < n
        → plan_by value inner scope.version (plan_lexemes (plain.Leaf f xs) ++ rest) ≡ Some (plain.Leaf f xs, rest)
    unfolding plan_by plan_lexemes leaf_at
    leaf_by f xs rest is few =
        rw (flavour_named scope.version f is.known) (rw is.inputs (rw (one_ends (values xs) rest) (
        rw (own_read 0 f xs rest (has_item xs (omega (arith, some_arguments f is.inputs, is.count))) is few) refl)))

    unary_by : (f : Flavour) (xs : List ValueExpr) (x : PlanExpr) (rest : List Lexeme) → IsOperator scope 1 f xs → length (values xs) < n
        → inner (plan_lexemes x ++ (further xs ++ right_bracket ∷ rest)) ≡ Some (x, further xs ++ right_bracket ∷ rest)
        → plan_by value inner scope.version (plan_lexemes (expr.Unary f xs x) ++ rest) ≡ Some (expr.Unary f xs x, rest)
    unfolding plan_by plan_lexemes unary_at
    unary_by f xs x rest is few read =
        rw (flavour_named scope.version f is.known) (rw is.inputs (rw (unary_ends (plan_lexemes x) xs rest) (rw read (rw (more_read 1 f xs rest is few) refl))))

    binary_by : (f : Flavour) (xs : List ValueExpr) (x y : PlanExpr) (rest : List Lexeme) → IsOperator scope 2 f xs → length (values xs) < n
        → inner (plan_lexemes x ++ comma ∷ (plan_lexemes y ++ (further xs ++ right_bracket ∷ rest))) ≡ Some (x, comma ∷ (plan_lexemes y ++ (further xs ++ right_bracket ∷ rest)))
        → inner (plan_lexemes y ++ (further xs ++ right_bracket ∷ rest)) ≡ Some (y, further xs ++ right_bracket ∷ rest)
        → plan_by value inner scope.version (plan_lexemes (expr.Binary f xs x y) ++ rest) ≡ Some (expr.Binary f xs x y, rest)
    unfolding plan_by plan_lexemes binary_at inputs_at joined_at
    binary_by f xs x y rest is few first second =
        rw (flavour_named scope.version f is.known) (rw is.inputs (rw (binary_ends (plan_lexemes x) (plan_lexemes y) xs rest) (rw first (rw second (rw (more_read 2 f xs rest is few) refl)))))

-- ---- plans

module _ (scope : Scope) where
  one : (n : ℕ) → IsRead (value_at scope n) value_lexemes (λ v. IsValue scope v × (length (value_lexemes v) < n)) NoSquare
  one n v rest good none = value_is_read scope n v rest good.0 good.1 none

  pub plan_read : (x : PlanExpr) → IsPlan scope x → (n : ℕ) (rest : List Lexeme) → length (plan_lexemes x) < n → plan_at scope n (plan_lexemes x ++ rest) ≡ Some (x, rest)
  unfolding plan_at plan_lexemes IsPlan
  plan_read x is zero rest few = absurd (omega (arith, few))
  plan_read (plain.Reference star xs) is (suc n) rest few =
      reference_by scope n (value_at scope n) (one n) (plan_at scope n) star xs rest is.0 is.1 is.2 (omega (arith, few, call_length star (map value_lexemes xs)))
  plan_read (plain.Glue t v) is (suc n) rest few =
      let count = call_length (codes "Glue") (value_lexemes t ∷ value_lexemes v ∷ []) in
      let parts = length-append (value_lexemes t) (comma ∷ value_lexemes v) in
      glue_by scope n (value_at scope n) (one n) (plan_at scope n) t v rest is.0 is.1 (omega (arith, few, count, parts)) (omega (arith, few, count, parts))
  plan_read (plain.Leaf f xs) is (suc n) rest few =
      leaf_by scope n (value_at scope n) (one n) (plan_at scope n) f xs rest is (omega (arith, few, call_length (flavour_word f) (map value_lexemes xs)))
  plan_read (expr.Unary f xs x) is (suc n) rest few =
      let count = call_length (flavour_word f) (plan_lexemes x ∷ map value_lexemes xs) in
      let parts = more_length (plan_lexemes x) xs in
      unary_by scope n (value_at scope n) (one n) (plan_at scope n) f xs x rest is.0 (omega (arith, few, count, parts, values_within xs)) (plan_read x is.1 n _ (omega (arith, few, count, parts)))
  plan_read (expr.Binary f xs x y) is (suc n) rest few =
      let count = call_length (flavour_word f) (plan_lexemes x ∷ plan_lexemes y ∷ map value_lexemes xs) in
      let first = length-append (plan_lexemes x) (comma ∷ joined_by comma (plan_lexemes y ∷ map value_lexemes xs)) in
      let parts = more_length (plan_lexemes y) xs in
      binary_by scope n (value_at scope n) (one n) (plan_at scope n) f xs x y rest is.0 (omega (arith, few, count, first, parts, values_within xs))
      (plan_read x is.1 n _ (omega (arith, few, count, first, parts))) (plan_read y is.2 n _ (omega (arith, few, count, first, parts)))
