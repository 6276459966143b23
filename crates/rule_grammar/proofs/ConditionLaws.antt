-- What conditions are spelled as is read as these, and nothing else is read. So none is the beginning of another.
use Rattle.std.proofs.Common.{◌≡◌, ℕ, zero, suc, ◌-◌, ◌<◌, List, [], ◌∷◌, ◌++◌, length, Some, codes, refl, ap, ◌∙◌, arith}
use Rattle.star_model.specs.declared.rules.ValueExpr.{ValueExpr}
use Rattle.star_model.specs.declared.rules.Condition.{Condition}
use Rattle.star_model.specs.declared.rules.Condition.TheVariants as plain
use Rattle.star_model.specs.ConditionCases as condition
use Rattle.rule_grammar.specs.declared.words.ConditionHead.{ConditionHead}
use Rattle.rule_grammar.specs.declared.words.ConditionHead.TheVariants as head
use Rattle.rule_grammar.specs.declared.words.UnaryTest.{UnaryTest}
use Rattle.rule_grammar.specs.declared.words.UnaryTest.TheVariants as unary
use Rattle.rule_grammar.specs.declared.words.BinaryTest.{BinaryTest}
use Rattle.rule_grammar.specs.declared.words.BinaryTest.TheVariants as binary
use Rattle.rule_grammar.specs.declared.words.Junction.{Junction}
use Rattle.rule_grammar.specs.declared.words.Junction.TheVariants as junction
use Rattle.spelling.specs.Lexemes.{Lexeme, Word, right_bracket, comma, joined_by, bracketed}
use Rattle.spelling.specs.Reading.{Reader, a_word}
use Rattle.rule_grammar.specs.Values.{value_lexemes, condition_lexemes}
use Rattle.star_model.specs.WellFormedRules.{Scope, IsValue, IsCondition}
use Rattle.rule_grammar.specs.ValueReading.{one_at, two_at, value_at}
use Rattle.rule_grammar.specs.ConditionReading.{unary_of, binary_of, junction_of, conditional, condition_head, condition_by, condition_at}
use Rattle.spelling.proofs.Laws.{a_word_reads, then_reads}
use Rattle.spelling.specs.SeriesReadingCases.{Spells}
use Rattle.rule_grammar.proofs.Bracketed.{one_ends, two_ends, one_read, two_read, IsSpelled, one_spelled, two_spelled, made_spelled}
use Rattle.rule_grammar.proofs.RuleHeads.{unary_test_word, binary_test_word, junction_word, unary_test_head, binary_test_head, junction_head, unary_test_lexemes, binary_test_lexemes, junction_lexemes, unary_test_is_condition, binary_test_is_condition, junction_is_condition, condition_word, condition_of_word}
use Rattle.rule_grammar.proofs.ValueReading.{len}
use Rattle.rule_grammar.proofs.RangeLaws.{one_value_is_read, two_values_are_read, one_value_spelled, two_values_spelled}

abbrev pub Anything : List Lexeme → Type 0
Anything r = Unit {0}

module _ (scope : Scope) where
  deeper : (n : ℕ) (ws : List Lexeme) → 0 < n → condition_at scope n ws ≡ condition_by scope (n - 1) (condition_at scope (n - 1)) ws
  unfolding condition_at
  deeper zero ws h = absurd (omega arith)
  deeper (suc n) ws h = let e : n ≡ suc n - 1 = omega arith in ap (λ k. condition_by scope k (condition_at scope k) ws) e

  -- ---- what is spelled is read

  -- how the lexemes of a condition are read before any others
  Claim : Condition → Type 0
  Claim c = (n : ℕ) (rest : List Lexeme) → length (condition_lexemes c) < n → condition_at scope n (condition_lexemes c ++ rest) ≡ Some (c, rest)

  one_condition_is_read : (c : Condition) (n : ℕ) (rest : List Lexeme) → Claim c → length (condition_lexemes c) < n
      → one_at (condition_at scope n) (bracketed (joined_by comma (condition_lexemes c ∷ [])) ++ rest) ≡ Some (c, rest)
  unfolding Claim
  one_condition_is_read c n rest claim less =
      one_read (condition_at scope n) c ((condition_lexemes c ++ right_bracket ∷ []) ++ rest) rest (ap (condition_at scope n) (one_ends (condition_lexemes c) rest) ∙ claim n (right_bracket ∷ rest) less)

  two_conditions_are_read : (c d : Condition) (n : ℕ) (rest : List Lexeme) → Claim c → Claim d → length (condition_lexemes c) < n → length (condition_lexemes d) < n
      → two_at (condition_at scope n) (bracketed (joined_by comma (condition_lexemes c ∷ condition_lexemes d ∷ [])) ++ rest) ≡ Some ((c, d), rest)
  unfolding Claim
  two_conditions_are_read c d n rest claim claim' less fewer =
      two_read (condition_at scope n) c d (((condition_lexemes c ++ comma ∷ condition_lexemes d) ++ right_bracket ∷ []) ++ rest) (condition_lexemes d ++ right_bracket ∷ rest) rest
      (ap (condition_at scope n) (two_ends (condition_lexemes c) (condition_lexemes d) rest) ∙ claim n (comma ∷ (condition_lexemes d ++ right_bracket ∷ rest)) less)
      (claim' n (right_bracket ∷ rest) fewer)

  -- behind the first word, at the depth below
  begun : (c : Condition) (n : ℕ) (ws rest : List Lexeme) → 0 < n → condition_by scope (n - 1) (condition_at scope (n - 1)) ws ≡ Some (c, rest) → condition_at scope n ws ≡ Some (c, rest)
  begun c n ws rest h read = deeper n ws h ∙ read

  unary_claim : (f : UnaryTest) (v : ValueExpr) → IsValue scope v → Claim (unary_of f v)
  unfolding Claim condition_by
  unary_claim f v h = λ n rest less.
      let e = unary_test_lexemes f v in
      let l = ap length e in
      let m = len (value_lexemes v) (right_bracket ∷ []) in
      ap (λ ws. condition_at scope n (ws ++ rest)) e ∙ begun (unary_of f v) n _ rest (omega arith) (rw (unary_test_head f, one_value_is_read scope v (n - 1) rest h (omega (arith, l, m, less))) refl)

  binary_claim : (f : BinaryTest) (v w : ValueExpr) → IsValue scope v → IsValue scope w → Claim (binary_of f v w)
  unfolding Claim condition_by
  binary_claim f v w h h' = λ n rest less.
      let e = binary_test_lexemes f v w in
      let l = ap length e in
      let m = len (value_lexemes v ++ comma ∷ value_lexemes w) (right_bracket ∷ []) in
      let k = len (value_lexemes v) (comma ∷ value_lexemes w) in
      ap (λ ws. condition_at scope n (ws ++ rest)) e
      ∙ begun (binary_of f v w) n _ rest (omega arith) (rw (binary_test_head f, two_values_are_read scope v w (n - 1) rest h h' (omega (arith, l, m, k, less)) (omega (arith, l, m, k, less))) refl)

  not_claim : (c : Condition) → Claim c → Claim (condition.Not c)
  unfolding Claim condition_lexemes condition_by condition_head
  not_claim c claim = λ n rest less.
      let m = len (condition_lexemes c) (right_bracket ∷ []) in
      begun (condition.Not c) n _ rest (omega arith) (rw (one_condition_is_read c (n - 1) rest claim (omega (arith, m, less))) refl)

  junction_claim : (f : Junction) (c d : Condition) → Claim c → Claim d → Claim (junction_of f c d)
  unfolding Claim condition_by
  junction_claim f c d claim claim' = λ n rest less.
      let e = junction_lexemes f c d in
      let l = ap length e in
      let m = len (condition_lexemes c ++ comma ∷ condition_lexemes d) (right_bracket ∷ []) in
      let k = len (condition_lexemes c) (comma ∷ condition_lexemes d) in
      ap (λ ws. condition_at scope n (ws ++ rest)) e
      ∙ begun (junction_of f c d) n _ rest (omega arith) (rw (junction_head f, two_conditions_are_read c d (n - 1) rest claim claim' (omega (arith, l, m, k, less)) (omega (arith, l, m, k, less))) refl)

  all_claims : (c : Condition) → IsCondition scope c → Claim c
  unfolding IsCondition
  all_claims (plain.Empty v) h = unary_claim unary.Empty v h
  all_claims (plain.Single v) h = unary_claim unary.Single v h
  all_claims (plain.Same v w) h = binary_claim binary.Same v w h.0 h.1
  all_claims (plain.Within v w) h = binary_claim binary.Within v w h.0 h.1
  all_claims (plain.Begins v w) h = binary_claim binary.Begins v w h.0 h.1
  all_claims (condition.Not c) h = not_claim c (all_claims c h)
  all_claims (condition.And c d) h = junction_claim junction.And c d (all_claims c h.0) (all_claims d h.1)
  all_claims (condition.Or c d) h = junction_claim junction.Or c d (all_claims c h.0) (all_claims d h.1)

  pub condition_is_read : (n : ℕ) (c : Condition) (rest : List Lexeme) → IsCondition scope c → length (condition_lexemes c) < n → condition_at scope n (condition_lexemes c ++ rest) ≡ Some (c, rest)
  unfolding Claim
  condition_is_read n c rest h less = all_claims c h n rest less

  -- ---- what is read is spelled

  module _ (n : ℕ) (inner : Reader Condition) (sound : Spells inner condition_lexemes (IsCondition scope)) where
    -- a condition on values or conditions behind its word
    abbrev Stands : List Lexeme → Condition → List Lexeme → Type 0
    Stands ws c rest = IsSpelled condition_lexemes (IsCondition scope) ws c rest

    conditional_spelled : (word : List ℕ) (h : ConditionHead) (xs ws : List Lexeme) (c : Condition) (rest : List Lexeme) → ((head.Other ≡ h → ⊥) → word ≡ condition_word h)
        → xs ≡ Word word ∷ ws → conditional scope n inner h ws ≡ Some (c, rest) → Stands xs c rest
    unfolding condition_word condition_lexemes IsCondition
    conditional_spelled word (head.Unary f) xs ws c rest is first read =
        made_spelled _ (IsValue scope) (one_at (value_at scope n)) (one_value_spelled scope n) condition_lexemes (IsCondition scope)
        (unary_of f) (unary_test_word f) (unary_test_lexemes f) (unary_test_is_condition scope f) xs ws c rest (first ∙ ap (λ w. Word w ∷ ws) (is (λ e. cc))) read
    conditional_spelled word (head.Binary f) xs ws c rest is first read =
        made_spelled _ _ (two_at (value_at scope n)) (two_values_spelled scope n) condition_lexemes (IsCondition scope)
        (λ p. binary_of f p.0 p.1) (binary_test_word f) (λ p. binary_test_lexemes f p.0 p.1) (λ p h. binary_test_is_condition scope f p.0 p.1 h.0 h.1) xs ws c rest (first ∙ ap (λ w. Word w ∷ ws) (is (λ e. cc))) read
    conditional_spelled word head.Not xs ws c rest is first read =
        made_spelled _ (IsCondition scope) (one_at inner) (one_spelled condition_lexemes (IsCondition scope) inner sound) condition_lexemes (IsCondition scope)
        (λ c. condition.Not c) (codes "not") (λ c. refl) (λ c h. h) xs ws c rest (first ∙ ap (λ w. Word w ∷ ws) (is (λ e. cc))) read
    conditional_spelled word (head.Junction f) xs ws c rest is first read =
        made_spelled _ _ (two_at inner) (two_spelled condition_lexemes (IsCondition scope) inner sound) condition_lexemes (IsCondition scope)
        (λ p. junction_of f p.0 p.1) (junction_word f) (λ p. junction_lexemes f p.0 p.1) (λ p h. junction_is_condition scope f p.0 p.1 h.0 h.1) xs ws c rest (first ∙ ap (λ w. Word w ∷ ws) (is (λ e. cc))) read
    conditional_spelled word head.Other xs ws c rest is first read = absurd cc

    condition_by_spelled : Spells (condition_by scope n inner) condition_lexemes (IsCondition scope)
    unfolding condition_by
    condition_by_spelled ws c rest read =
        then_reads a_word _ ws c rest read (λ word left first read2.
        conditional_spelled word (condition_head word) ws left c rest (λ else_. condition_of_word word (condition_head word) refl else_) ((a_word_reads ws left word).0 first) read2)

  pub condition_is_spelled : (n : ℕ) → Spells (condition_at scope n) condition_lexemes (IsCondition scope)
  unfolding condition_at
  condition_is_spelled zero ws c rest read = absurd cc
  condition_is_spelled (suc n) ws c rest read = condition_by_spelled n (condition_at scope n) (condition_is_spelled n) ws c rest read
