-- The first limit that the tests find is the first that a statement goes beyond.
use Rattle.std.proofs.Common.{◌≡◌, ◌<◌, ◌≤◌, ◌+◌, ◌⊎◌, inl, inr, ℕ, zero, suc, Bool, true, false, nat_lt, nat_le, List, [], ◌∷◌, length, Option, Some, None, refl, ap, ◌∙◌, arith, ltb-true}
use Rattle.std.specs.Prelude.{MatchOption, ◌||◌, if◌then◌else◌, Contains}
use Rattle.std.specs.List.{list_any}
use Rattle.std.proofs.lemmas.Bool.{both_ways, lt-ltb, leb-true, ltb-false, leb-false, or_cases, or_left, or_right, false_from_ne_true}
use Rattle.star_model.specs.Numbers.{top}
use Rattle.star_model.specs.Monotone.{nodes}
use Rattle.star_model.specs.declared.faults.LimitKind.{LimitKind}
use Rattle.star_model.specs.declared.faults.LimitKind.TheVariants as limit
use Rattle.star_model.specs.declared.rules.StarDef.{StarDef}
use Rattle.star_model.specs.declared.rules.FormulaDef.{FormulaDef}
use Rattle.star_model.specs.declared.rules.SelectDef.{SelectDef}
use Rattle.spelling.specs.Lexemes.{Lexeme, Word, Number, Text, Symbol}
use Rattle.spelling.specs.Limits.{limit_rank, HasGreatNumber, HasLongWord}
use Rattle.rule_grammar.specs.Rules.{Definition, OfVersion, OfSelect, OfFormula, OfStar}
use Rattle.rule_grammar.specs.RuleLimits.{RuleStatement, HasAlternative, Beyond, BeyondFirst, IsBeyond, count_of_stars}
use Rattle.star_model.specs.WellFormedRules.{nesting}
use Rattle.star_syntax.specs.LimitTests.{is_great, is_long, has_many_ranges, is_deep, is_large, star_limit, formula_limit, select_limit, definition_limit, limit_beyond}

pub not_less : (m n : ℕ) → (m < n → ⊥) → n ≤ m
not_less m n h = ltb-false m n (false_from_ne_true (nat_lt m n) (λ k. h (ltb-true m n k)))

-- ---- numbers and words

great_from : (lexemes : List Lexeme) → list_any is_great lexemes ≡ true → HasGreatNumber lexemes
great_from [] h = absurd cc
great_from (Word bytes ∷ later) h = great_from later h
great_from (Number n ∷ later) h = elim (or_cases (nat_lt top n) (list_any is_great later) h) [ inl k ↦ inl (ltb-true top n k) | inr k ↦ inr (great_from later k) ]
great_from (Text bytes ∷ later) h = great_from later h
great_from (Symbol bytes ∷ later) h = great_from later h

great_to : (lexemes : List Lexeme) → HasGreatNumber lexemes → list_any is_great lexemes ≡ true
great_to [] h = absurd h
great_to (Word bytes ∷ later) h = great_to later h
great_to (Number n ∷ later) (inl h) = or_left (nat_lt top n) (list_any is_great later) (lt-ltb top n h)
great_to (Number n ∷ later) (inr h) = or_right (nat_lt top n) (list_any is_great later) (great_to later h)
great_to (Text bytes ∷ later) h = great_to later h
great_to (Symbol bytes ∷ later) h = great_to later h

long_from : (lexemes : List Lexeme) → list_any is_long lexemes ≡ true → HasLongWord lexemes
long_from [] h = absurd cc
long_from (Word bytes ∷ later) h =
    elim (or_cases (nat_lt 64 (length bytes)) (list_any is_long later) h) [ inl k ↦ inl (ltb-true 64 (length bytes) k) | inr k ↦ inr (long_from later k) ]
long_from (Number n ∷ later) h = long_from later h
long_from (Text bytes ∷ later) h = long_from later h
long_from (Symbol bytes ∷ later) h = long_from later h

long_to : (lexemes : List Lexeme) → HasLongWord lexemes → list_any is_long lexemes ≡ true
long_to [] h = absurd h
long_to (Word bytes ∷ later) (inl h) = or_left (nat_lt 64 (length bytes)) (list_any is_long later) (lt-ltb 64 (length bytes) h)
long_to (Word bytes ∷ later) (inr h) = or_right (nat_lt 64 (length bytes)) (list_any is_long later) (long_to later h)
long_to (Number n ∷ later) h = long_to later h
long_to (Text bytes ∷ later) h = long_to later h
long_to (Symbol bytes ∷ later) h = long_to later h

-- ---- some alternative

contains_one : {A : Type 0} (x y : A) (xs : List A) → Contains (x ∷ xs) y → (x ≡ y) ⊎ Contains xs y
contains_one x y xs (zero, less, is) = inl is
contains_one x y xs (suc k, less, is) = inr (k, omega (arith, less), is)

some_from : {A : Type 0} (test : A → Bool) (xs : List A) → list_any test xs ≡ true → (x : A) × Contains xs x × (test x ≡ true)
some_from test [] h = absurd cc
some_from test (x ∷ xs) h =
    elim (or_cases (test x) (list_any test xs) h) [
      | inl k ↦ (x, (0, omega arith, refl), k)
      | inr k ↦ let found = some_from test xs k in (found.0, (suc found.1.0, omega (arith, found.1.1), found.1.2), found.2)
    ]

some_to : {A : Type 0} (test : A → Bool) (xs : List A) (x : A) → Contains xs x → test x ≡ true → list_any test xs ≡ true
some_to test [] x is h = absurd (omega (arith, is.1))
some_to test (y ∷ xs) x is h =
    elim (contains_one y x xs is) [
      | inl same ↦ or_left (test y) (list_any test xs) (ap test same ∙ h)
      | inr later ↦ or_right (test y) (list_any test xs) (some_to test xs x later h)
    ]

many_from : (s : StarDef) → list_any has_many_ranges s.alternatives ≡ true → HasAlternative (λ a. 2 < length a.ranges) s
many_from s h = let found = some_from has_many_ranges s.alternatives h in (found.0, found.1, ltb-true 2 (length (found.0).ranges) found.2)

many_to : (s : StarDef) → HasAlternative (λ a. 2 < length a.ranges) s → list_any has_many_ranges s.alternatives ≡ true
many_to s h = some_to has_many_ranges s.alternatives h.0 h.1 (lt-ltb 2 (length (h.0).ranges) h.2)

deep_from : (s : StarDef) → list_any is_deep s.alternatives ≡ true → HasAlternative (λ a. 8 < nesting a.body) s
deep_from s h = let found = some_from is_deep s.alternatives h in (found.0, found.1, ltb-true 8 (nesting (found.0).body) found.2)

deep_to : (s : StarDef) → HasAlternative (λ a. 8 < nesting a.body) s → list_any is_deep s.alternatives ≡ true
deep_to s h = some_to is_deep s.alternatives h.0 h.1 (lt-ltb 8 (nesting (h.0).body) h.2)

-- ---- what is found of a statement

abbrev pub Finds : List RuleStatement → RuleStatement → Option LimitKind → Type 0
Finds earlier s found = MatchOption found (IsBeyond earlier s → ⊥) (λ what. BeyondFirst what earlier s)

first_number : (earlier : List RuleStatement) (s : RuleStatement) → list_any is_great s.lexemes ≡ true → BeyondFirst limit.Number earlier s
first_number earlier s h = record { beyond = great_from s.lexemes h; first = λ other b. omega arith }

first_name : (earlier : List RuleStatement) (s : RuleStatement) → list_any is_great s.lexemes ≡ false → list_any is_long s.lexemes ≡ true → BeyondFirst limit.Name earlier s
first_name earlier s fine h = record { beyond = long_from s.lexemes h; first = rest } where
  rest : (other : LimitKind) → Beyond earlier s other → 1 ≤ limit_rank other
  rest limit.Number b = absurd (both_ways (list_any is_great s.lexemes) fine (great_to s.lexemes b))
  rest _ b = omega arith

module _ (earlier : List RuleStatement) (lexemes : List Lexeme) (fine : list_any is_great lexemes ≡ false) (short : list_any is_long lexemes ≡ false) where
  -- ---- a formula

  module _ (d : FormulaDef) where
    abbrev of_formula : RuleStatement
    of_formula = record { lexemes = lexemes; defines = OfFormula d }

    no_formula_limit : nat_lt 256 (length (nodes d.formula)) ≡ false → (what : LimitKind) → Beyond earlier of_formula what → ⊥
    no_formula_limit small limit.Number b = both_ways (list_any is_great lexemes) fine (great_to lexemes b)
    no_formula_limit small limit.Name b = both_ways (list_any is_long lexemes) short (long_to lexemes b)
    no_formula_limit small limit.Formula b = omega (arith, ltb-false 256 (length (nodes d.formula)) small)
    no_formula_limit small _ b = b

    first_formula : nat_lt 256 (length (nodes d.formula)) ≡ true → BeyondFirst limit.Formula earlier of_formula
    first_formula large = record { beyond = ltb-true 256 (length (nodes d.formula)) large; first = rest } where
      rest : (other : LimitKind) → Beyond earlier of_formula other → 8 ≤ limit_rank other
      rest limit.Number b = absurd (both_ways (list_any is_great lexemes) fine (great_to lexemes b))
      rest limit.Name b = absurd (both_ways (list_any is_long lexemes) short (long_to lexemes b))
      rest limit.Formula b = omega arith
      rest _ b = absurd b

    formula_finds : Finds earlier of_formula (formula_limit d)
    formula_finds = at (nat_lt 256 (length (nodes d.formula))) refl where
      at : (b : Bool) → nat_lt 256 (length (nodes d.formula)) ≡ b → Finds earlier of_formula (if b then Some limit.Formula else None)
      at true large = first_formula large
      at false small = λ beyond. no_formula_limit small beyond.0 beyond.1

  -- ---- a selectivity

  module _ (d : SelectDef) where
    abbrev of_select : RuleStatement
    of_select = record { lexemes = lexemes; defines = OfSelect d }

    no_select_limit : is_large d.num ≡ false → is_large d.den ≡ false → (what : LimitKind) → Beyond earlier of_select what → ⊥
    no_select_limit num den limit.Number b = both_ways (list_any is_great lexemes) fine (great_to lexemes b)
    no_select_limit num den limit.Name b = both_ways (list_any is_long lexemes) short (long_to lexemes b)
    no_select_limit num den limit.Formula (inl b) = omega (arith, ltb-false 256 (length (nodes d.num)) num, b)
    no_select_limit num den limit.Formula (inr b) = omega (arith, ltb-false 256 (length (nodes d.den)) den, b)
    no_select_limit num den _ b = b

    first_select : (256 < length (nodes d.num)) ⊎ (256 < length (nodes d.den)) → BeyondFirst limit.Formula earlier of_select
    first_select large = record { beyond = large; first = rest } where
      rest : (other : LimitKind) → Beyond earlier of_select other → 8 ≤ limit_rank other
      rest limit.Number b = absurd (both_ways (list_any is_great lexemes) fine (great_to lexemes b))
      rest limit.Name b = absurd (both_ways (list_any is_long lexemes) short (long_to lexemes b))
      rest limit.Formula b = omega arith
      rest _ b = absurd b

    select_finds : Finds earlier of_select (select_limit d)
    select_finds = at (is_large d.num) (is_large d.den) refl refl where
      at : (a b : Bool) → is_large d.num ≡ a → is_large d.den ≡ b → Finds earlier of_select (if a || b then Some limit.Formula else None)
      at true b num den = first_select (inl (ltb-true 256 (length (nodes d.num)) num))
      at false true num den = first_select (inr (ltb-true 256 (length (nodes d.den)) den))
      at false false num den = λ beyond. no_select_limit num den beyond.0 beyond.1

  -- ---- the version

  no_version_limit : (what : LimitKind) → Beyond earlier (record { lexemes = lexemes; defines = OfVersion }) what → ⊥
  no_version_limit limit.Number b = both_ways (list_any is_great lexemes) fine (great_to lexemes b)
  no_version_limit limit.Name b = both_ways (list_any is_long lexemes) short (long_to lexemes b)
  no_version_limit _ b = b

  -- ---- a STAR

  module _ (s : StarDef) where
    abbrev of_star : RuleStatement
    of_star = record { lexemes = lexemes; defines = OfStar s }

    abbrev Many : Bool → Bool → Bool → Bool → Bool → Type 0
    Many a b c d e =
        (nat_lt 8 (length s.params) ≡ a) × (nat_lt 16 (length s.alternatives) ≡ b) × (list_any has_many_ranges s.alternatives ≡ c)
        × (nat_le 64 (count_of_stars earlier) ≡ d) × (list_any is_deep s.alternatives ≡ e)

    -- what it doesn't go beyond
    not_params : nat_lt 8 (length s.params) ≡ false → Beyond earlier of_star limit.Params → ⊥
    not_params few b = omega (arith, ltb-false 8 (length s.params) few)

    not_alternatives : nat_lt 16 (length s.alternatives) ≡ false → Beyond earlier of_star limit.Alternatives → ⊥
    not_alternatives few b = omega (arith, ltb-false 16 (length s.alternatives) few)

    not_ranges : list_any has_many_ranges s.alternatives ≡ false → Beyond earlier of_star limit.ForAlls → ⊥
    not_ranges few b = both_ways (list_any has_many_ranges s.alternatives) few (many_to s b)

    not_stars : nat_le 64 (count_of_stars earlier) ≡ false → Beyond earlier of_star limit.Stars → ⊥
    not_stars few b = omega (arith, leb-false 64 (count_of_stars earlier) few)

    not_deep : list_any is_deep s.alternatives ≡ false → Beyond earlier of_star limit.Depth → ⊥
    not_deep flat b = both_ways (list_any is_deep s.alternatives) flat (deep_to s b)

    -- the kind, where those before it aren't gone beyond
    kind_of : (rank : ℕ) (what : LimitKind) → Beyond earlier of_star what
        → (Beyond earlier of_star limit.Params → 3 < rank → ⊥) → (Beyond earlier of_star limit.Alternatives → 4 < rank → ⊥) → (Beyond earlier of_star limit.ForAlls → 5 < rank → ⊥)
        → (Beyond earlier of_star limit.Stars → 6 < rank → ⊥) → (Beyond earlier of_star limit.Depth → 7 < rank → ⊥) → limit_rank what < rank → ⊥
    kind_of rank limit.Number b p q r t u less = both_ways (list_any is_great lexemes) fine (great_to lexemes b)
    kind_of rank limit.Name b p q r t u less = both_ways (list_any is_long lexemes) short (long_to lexemes b)
    kind_of rank limit.Params b p q r t u less = p b less
    kind_of rank limit.Alternatives b p q r t u less = q b less
    kind_of rank limit.ForAlls b p q r t u less = r b less
    kind_of rank limit.Stars b p q r t u less = t b less
    kind_of rank limit.Depth b p q r t u less = u b less
    kind_of rank _ b p q r t u less = b

    star_finds : Finds earlier of_star (star_limit (count_of_stars earlier) s)
    star_finds =
        at (nat_lt 8 (length s.params)) (nat_lt 16 (length s.alternatives)) (list_any has_many_ranges s.alternatives) (nat_le 64 (count_of_stars earlier)) (list_any is_deep s.alternatives)
        (refl, refl, refl, refl, refl)
      where
        at : (a b c d e : Bool) → Many a b c d e
            → Finds earlier of_star
            (if a then Some limit.Params else if b then Some limit.Alternatives else if c then Some limit.ForAlls else if d then Some limit.Stars else if e then Some limit.Depth else None)
        at true b c d e h = record {
          beyond = ltb-true 8 (length s.params) h.0;
          first = λ other o. not_less (limit_rank other) 3 (kind_of 3 other o (λ _ l. omega (arith, l)) (λ _ l. omega (arith, l)) (λ _ l. omega (arith, l)) (λ _ l. omega (arith, l)) (λ _ l. omega (arith, l)));
        }
        at false true c d e h = record {
          beyond = ltb-true 16 (length s.alternatives) h.1;
          first = λ other o.
              not_less (limit_rank other) 4 (kind_of 4 other o (λ x _. not_params h.0 x) (λ _ l. omega (arith, l)) (λ _ l. omega (arith, l)) (λ _ l. omega (arith, l)) (λ _ l. omega (arith, l)));
        }
        at false false true d e h = record {
          beyond = many_from s h.2;
          first = λ other o.
              not_less (limit_rank other) 5 (kind_of 5 other o (λ x _. not_params h.0 x) (λ x _. not_alternatives h.1 x) (λ _ l. omega (arith, l)) (λ _ l. omega (arith, l)) (λ _ l. omega (arith, l)));
        }
        at false false false true e h = record {
          beyond = leb-true 64 (count_of_stars earlier) h.3;
          first = λ other o.
              not_less (limit_rank other) 6 (kind_of 6 other o (λ x _. not_params h.0 x) (λ x _. not_alternatives h.1 x) (λ x _. not_ranges h.2 x) (λ _ l. omega (arith, l)) (λ _ l. omega (arith, l)));
        }
        at false false false false true h = record {
          beyond = deep_from s h.4;
          first = λ other o.
              not_less (limit_rank other) 7 (kind_of 7 other o (λ x _. not_params h.0 x) (λ x _. not_alternatives h.1 x) (λ x _. not_ranges h.2 x) (λ x _. not_stars h.3 x) (λ _ l. omega (arith, l)));
        }
        at false false false false false h = λ beyond.
            kind_of (limit_rank beyond.0 + 1) beyond.0 beyond.1
            (λ x _. not_params h.0 x) (λ x _. not_alternatives h.1 x) (λ x _. not_ranges h.2 x) (λ x _. not_stars h.3 x) (λ x _. not_deep h.4 x) (omega arith)

  definition_finds : (definition : Definition) → Finds earlier (record { lexemes = lexemes; defines = definition }) (definition_limit (count_of_stars earlier) definition)
  definition_finds OfVersion = λ beyond. no_version_limit beyond.0 beyond.1
  definition_finds (OfSelect d) = select_finds d
  definition_finds (OfFormula d) = formula_finds d
  definition_finds (OfStar s) = star_finds s

-- the tests find the first limit that the statement goes beyond
pub limit_found : (earlier : List RuleStatement) (s : RuleStatement) → Finds earlier s (limit_beyond (count_of_stars earlier) s)
limit_found earlier s = at (list_any is_great s.lexemes) (list_any is_long s.lexemes) refl refl where
  at : (a b : Bool) → list_any is_great s.lexemes ≡ a → list_any is_long s.lexemes ≡ b
      → Finds earlier s (if a then Some limit.Number else if b then Some limit.Name else definition_limit (count_of_stars earlier) s.defines)
  at true b great long_ = first_number earlier s great
  at false true great long_ = first_name earlier s great long_
  at false false great long_ = definition_finds earlier s.lexemes great long_ s.defines
