-- What ranges are spelled as is read as these, and nothing else is read. So none is the beginning of another.
use Rattle.std.proofs.Common.{◌≡◌, ℕ, ◌<◌, List, [], ◌∷◌, ◌++◌, length, Some, codes, refl, ap, ◌∙◌, subst, arith}
use Rattle.std.proofs.lemmas.Option.{some_pair_parts}
use Rattle.star_model.specs.declared.rules.ValueExpr.{ValueExpr}
use Rattle.star_model.specs.declared.rules.Range.{Range}
use Rattle.star_model.specs.declared.rules.Range.TheVariants as range
use Rattle.rule_grammar.specs.declared.words.RangeHead.{RangeHead}
use Rattle.rule_grammar.specs.declared.words.RangeHead.TheVariants as head
use Rattle.spelling.specs.Lexemes.{Lexeme, Word, right_bracket, comma, joined_by, bracketed}
use Rattle.spelling.specs.Reading.{a_word}
use Rattle.rule_grammar.specs.Values.{value_lexemes, range_lexemes}
use Rattle.star_model.specs.WellFormedRules.{Scope, IsValue, IsRange}
use Rattle.rule_grammar.specs.ValueReading.{one_at, two_at, value_at, ranging, range_at, range_head}
use Rattle.spelling.proofs.Laws.{a_word_reads, then_reads}
use Rattle.spelling.specs.SeriesReadingCases.{Spells}
use Rattle.rule_grammar.proofs.Bracketed.{one_ends, two_ends, one_read, two_read, IsSpelled, one_spelled, two_spelled, made_spelled}
use Rattle.rule_grammar.proofs.RuleHeads.{range_word, range_of_word}
use Rattle.rule_grammar.proofs.ValueReading.{len, value_is_read}
use Rattle.rule_grammar.proofs.ValueSpelled.{value_is_spelled}

module _ (scope : Scope) where
  -- ---- values in brackets

  pub one_value_is_read : (v : ValueExpr) (n : ℕ) (rest : List Lexeme) → IsValue scope v → length (value_lexemes v) < n
      → one_at (value_at scope n) (bracketed (joined_by comma (value_lexemes v ∷ [])) ++ rest) ≡ Some (v, rest)
  one_value_is_read v n rest h less =
      one_read (value_at scope n) v ((value_lexemes v ++ right_bracket ∷ []) ++ rest) rest
      (ap (value_at scope n) (one_ends (value_lexemes v) rest) ∙ value_is_read scope n v (right_bracket ∷ rest) h less refl)

  pub two_values_are_read : (v w : ValueExpr) (n : ℕ) (rest : List Lexeme) → IsValue scope v → IsValue scope w → length (value_lexemes v) < n → length (value_lexemes w) < n
      → two_at (value_at scope n) (bracketed (joined_by comma (value_lexemes v ∷ value_lexemes w ∷ [])) ++ rest) ≡ Some ((v, w), rest)
  two_values_are_read v w n rest h k less fewer =
      two_read (value_at scope n) v w (((value_lexemes v ++ comma ∷ value_lexemes w) ++ right_bracket ∷ []) ++ rest) (value_lexemes w ++ right_bracket ∷ rest) rest
      (ap (value_at scope n) (two_ends (value_lexemes v) (value_lexemes w) rest) ∙ value_is_read scope n v (comma ∷ (value_lexemes w ++ right_bracket ∷ rest)) h less refl)
      (value_is_read scope n w (right_bracket ∷ rest) k fewer refl)

  pub one_value_spelled : (n : ℕ) → Spells (one_at (value_at scope n)) (λ v. bracketed (joined_by comma (value_lexemes v ∷ []))) (IsValue scope)
  one_value_spelled n = one_spelled value_lexemes (IsValue scope) (value_at scope n) (value_is_spelled scope n)

  pub two_values_spelled : (n : ℕ)
      → Spells (two_at (value_at scope n)) (λ (p : ValueExpr × ValueExpr). bracketed (joined_by comma (value_lexemes p.0 ∷ value_lexemes p.1 ∷ []))) (λ p. IsValue scope p.0 × IsValue scope p.1)
  two_values_spelled n = two_spelled value_lexemes (IsValue scope) (value_at scope n) (value_is_spelled scope n)

  -- ---- ranges

  pub range_is_read : (n : ℕ) (x : Range) (rest : List Lexeme) → IsRange scope x → length (range_lexemes x) < n → range_at scope n (range_lexemes x ++ rest) ≡ Some (x, rest)
  unfolding range_at range_head
  range_is_read n (range.Indexes v) rest h less = let m = len (value_lexemes v) (right_bracket ∷ []) in rw (one_value_is_read v n rest h (omega (arith, m))) refl
  range_is_read n range.Sites rest h less = refl
  range_is_read n (range.Members v) rest h less = let m = len (value_lexemes v) (right_bracket ∷ []) in rw (one_value_is_read v n rest h (omega (arith, m))) refl
  range_is_read n (range.Each v) rest h less = let m = len (value_lexemes v) (right_bracket ∷ []) in rw (one_value_is_read v n rest h (omega (arith, m))) refl

  ranging_spelled : (n : ℕ) (word : List ℕ) (h : RangeHead) (xs ws : List Lexeme) (x : Range) (rest : List Lexeme) → ((head.Other ≡ h → ⊥) → word ≡ range_word h)
      → xs ≡ Word word ∷ ws → ranging scope n h ws ≡ Some (x, rest) → IsSpelled range_lexemes (IsRange scope) xs x rest
  unfolding range_word
  ranging_spelled n word head.Indexes xs ws x rest is first read =
      made_spelled _ (IsValue scope) (one_at (value_at scope n)) (one_value_spelled n) range_lexemes (IsRange scope) (λ v. range.Indexes v) (codes "indexes") (λ v. refl) (λ v h. h)
      xs ws x rest (first ∙ ap (λ w. Word w ∷ ws) (is (λ e. cc))) read
  ranging_spelled n word head.Sites xs ws x rest is first read =
      let same = some_pair_parts range.Sites x ws rest read in
      (first ∙ ap (λ w. Word w ∷ ws) (is (λ e. cc)) ∙ (λ i. range_lexemes (same.0 i) ++ same.1 i), subst (IsRange scope) same.0 tt)
  ranging_spelled n word head.Members xs ws x rest is first read =
      made_spelled _ (IsValue scope) (one_at (value_at scope n)) (one_value_spelled n) range_lexemes (IsRange scope) (λ v. range.Members v) (codes "members") (λ v. refl) (λ v h. h)
      xs ws x rest (first ∙ ap (λ w. Word w ∷ ws) (is (λ e. cc))) read
  ranging_spelled n word head.Each xs ws x rest is first read =
      made_spelled _ (IsValue scope) (one_at (value_at scope n)) (one_value_spelled n) range_lexemes (IsRange scope) (λ v. range.Each v) (codes "each") (λ v. refl) (λ v h. h)
      xs ws x rest (first ∙ ap (λ w. Word w ∷ ws) (is (λ e. cc))) read
  ranging_spelled n word head.Other xs ws x rest is first read = absurd cc

  pub range_is_spelled : (n : ℕ) → Spells (range_at scope n) range_lexemes (IsRange scope)
  unfolding range_at
  range_is_spelled n ws x rest read =
      then_reads a_word _ ws x rest read (λ word left first read2.
      ranging_spelled n word (range_head word) ws left x rest (λ else_. range_of_word word (range_head word) refl else_) ((a_word_reads ws left word).0 first) read2)
