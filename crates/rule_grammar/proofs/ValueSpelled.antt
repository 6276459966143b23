-- What is read as a value or a range is spelled as this.
use Rattle.std.proofs.Common.{◌≡◌, ℕ, zero, suc, List, [], ◌∷◌, ◌++◌, Option, Some, None, Bool, true, false, codes, refl, sym, ap, ◌∙◌, subst, append_assoc}
use Rattle.std.proofs.lemmas.Option.{some_pair_parts}
use Rattle.star_model.specs.declared.rules.ValueExpr.{ValueExpr}
use Rattle.star_model.specs.declared.rules.ValueExpr.TheVariants as plain
use Rattle.star_model.specs.ValueCases.{WithTemp, Indexable}
use Rattle.rule_grammar.specs.declared.words.ValueHead.{ValueHead}
use Rattle.rule_grammar.specs.declared.words.ValueHead.TheVariants as head
use Rattle.rule_grammar.specs.declared.words.UnaryHead.{UnaryHead}
use Rattle.rule_grammar.specs.declared.words.BinaryHead.{BinaryHead}
use Rattle.rule_grammar.specs.declared.words.RequirementHead.{RequirementHead}
use Rattle.rule_grammar.specs.declared.words.RequirementHead.TheVariants as requirement
use Rattle.rule_grammar.specs.declared.words.ValuedHead.{ValuedHead}
use Rattle.spelling.specs.Lexemes.{Lexeme, Word, left_square, right_square, left_bracket, right_bracket, comma}
use Rattle.spelling.specs.Reading.{Reader, ◌>>=◌, ◌>>◌, pure, the_symbol, a_word}
use Rattle.star_model.specs.WellFormedRules.{Scope, is_reserved, place_among, IsValue}
use Rattle.rule_grammar.specs.Values.{value_lexemes, in_squares}
use Rattle.rule_grammar.specs.ValueReading.{one_at, last_two_at, two_at, constant_of, unary_of, binary_of, valued_of, variable_at, value_head, indexable_at, headed, bare_at, required_at, requiring, requirement_at, requirement_head, turn, requirements_at, value_by, value_at}
use Rattle.spelling.proofs.Laws.{the_symbol_reads, a_word_reads, then_reads}
use Rattle.spelling.specs.SeriesReadingCases.{Spells}
use Rattle.rule_grammar.proofs.Bracketed.{three_ends, IsSpelled, one_spelled, last_two_spelled, two_spelled, made_spelled}
use Rattle.rule_grammar.proofs.RuleHeads.{value_word, unary_word, binary_word, head_of_word, constant_lexemes, unary_lexemes, binary_lexemes, constant_is_value, unary_is_value, binary_is_value, requirement_word, valued_word, valued_lexemes, valued_is_value, requirement_of_word}

module _ (scope : Scope) where
  abbrev ValueStands : List Lexeme → ValueExpr → List Lexeme → Type 0
  ValueStands ws v rest = IsSpelled value_lexemes (IsValue scope) ws v rest

  variable_spelled : (name : List ℕ) (xs ws : List Lexeme) (v : ValueExpr) (rest : List Lexeme) → xs ≡ Word name ∷ ws → variable_at scope name ws ≡ Some (v, rest) → ValueStands xs v rest
  unfolding variable_at value_lexemes IsValue
  variable_spelled name xs ws v rest first read = at (is_reserved scope.version name) refl
    where
      at : (b : Bool) → is_reserved scope.version name ≡ b → ValueStands xs v rest
      at true reserved = let none = rw reserved at read in absurd cc
      at false free =
          let is = some_pair_parts (plain.Variable name (place_among scope.names name)) v ws rest (rw free at read) in
          (first ∙ (λ i. Word name ∷ is.1 i) ∙ ap (λ u. value_lexemes u ++ rest) is.0, subst (IsValue scope) is.0 (free, refl))

  module _ (inner : Reader ValueExpr) (sound : Spells inner value_lexemes (IsValue scope)) where
    unary_spelled : (f : UnaryHead) (xs ws : List Lexeme) (v : ValueExpr) (rest : List Lexeme) → xs ≡ Word (unary_word f) ∷ ws
        → (one_at inner >>= λ x. pure (unary_of f x)) ws ≡ Some (v, rest) → ValueStands xs v rest
    unary_spelled f xs ws v rest first read =
        made_spelled _ (IsValue scope) (one_at inner) (one_spelled value_lexemes (IsValue scope) inner sound)
        value_lexemes (IsValue scope) (unary_of f) (unary_word f) (unary_lexemes f) (unary_is_value scope f) xs ws v rest first read

    binary_spelled : (f : BinaryHead) (xs ws : List Lexeme) (v : ValueExpr) (rest : List Lexeme) → xs ≡ Word (binary_word f) ∷ ws
        → (two_at inner >>= λ p. pure (binary_of f p.0 p.1)) ws ≡ Some (v, rest) → ValueStands xs v rest
    binary_spelled f xs ws v rest first read =
        made_spelled _ _ (two_at inner) (two_spelled value_lexemes (IsValue scope) inner sound)
        value_lexemes (IsValue scope) (λ p. binary_of f p.0 p.1) (binary_word f) (λ p. binary_lexemes f p.0 p.1) (λ p h. binary_is_value scope f p.0 p.1 h.0 h.1) xs ws v rest first read

    indexable_spelled : (xs ws : List Lexeme) (v : ValueExpr) (rest : List Lexeme) → xs ≡ Word (codes "indexable") ∷ ws → indexable_at inner ws ≡ Some (v, rest) → ValueStands xs v rest
    unfolding indexable_at value_lexemes IsValue
    indexable_spelled xs ws v rest first read =
        then_reads (the_symbol (codes "(")) _ ws v rest read (λ u left opens read2.
        then_reads inner _ left v rest read2 (λ t mid one read3.
        then_reads (the_symbol (codes ",")) _ mid v rest read3 (λ u2 later between read4.
        then_reads (last_two_at inner) _ later v rest read4 (λ p last two read5.
        let is = some_pair_parts (Indexable t p.0 p.1) v last rest read5 in
        let stood = sound left t mid one in
        let both = last_two_spelled value_lexemes (IsValue scope) inner sound later p last two in
        let a = value_lexemes t in
        let b = value_lexemes p.0 in
        let c = value_lexemes p.1 in
        let brackets : ws ≡ left_bracket ∷ (a ++ comma ∷ (b ++ comma ∷ (c ++ right_bracket ∷ last))) =
        (the_symbol_reads (codes "(") ws left).0 opens
        ∙ ap (λ l. left_bracket ∷ l) (stood.0
        ∙ ap (λ l. a ++ l) ((the_symbol_reads (codes ",") mid later).0 between
        ∙ ap (λ l. comma ∷ l) (both.0 ∙ append_assoc b (comma ∷ (c ++ right_bracket ∷ [])) last ∙ ap (λ l. b ++ comma ∷ l) (append_assoc c (right_bracket ∷ []) last)))) in (
          first ∙ ap (λ l. Word (codes "indexable") ∷ l) (brackets ∙ ap (λ l. left_bracket ∷ l) (sym (three_ends a b c last))) ∙ (λ i. value_lexemes (is.0 i) ++ is.1 i),
          subst (IsValue scope) is.0 (stood.1, both.1.0, both.1.1),
        )))))

    headed_spelled : (word : List ℕ) (h : ValueHead) (xs ws : List Lexeme) (v : ValueExpr) (rest : List Lexeme) → ((head.Other ≡ h → ⊥) → word ≡ value_word h)
        → xs ≡ Word word ∷ ws → headed scope inner word h ws ≡ Some (v, rest) → ValueStands xs v rest
    unfolding value_word
    headed_spelled word (head.Constant c) xs ws v rest is first read =
        let same = some_pair_parts (constant_of c) v ws rest read in (
          first ∙ (λ i. Word (is (λ e. cc) i) ∷ ws) ∙ ap (λ l. l ++ ws) (sym (constant_lexemes c)) ∙ (λ i. value_lexemes (same.0 i) ++ same.1 i),
          subst (IsValue scope) same.0 (constant_is_value scope c),
        )
    headed_spelled word (head.Unary f) xs ws v rest is first read = unary_spelled f xs ws v rest (first ∙ ap (λ w. Word w ∷ ws) (is (λ e. cc))) read
    headed_spelled word (head.Binary f) xs ws v rest is first read = binary_spelled f xs ws v rest (first ∙ ap (λ w. Word w ∷ ws) (is (λ e. cc))) read
    headed_spelled word head.Indexable xs ws v rest is first read = indexable_spelled xs ws v rest (first ∙ ap (λ w. Word w ∷ ws) (is (λ e. cc))) read
    headed_spelled word head.Other xs ws v rest is first read = variable_spelled word xs ws v rest first read

    bare_spelled : (xs : List Lexeme) (v : ValueExpr) (rest : List Lexeme) → bare_at scope inner xs ≡ Some (v, rest) → ValueStands xs v rest
    unfolding bare_at
    bare_spelled xs v rest read =
        then_reads a_word _ xs v rest read (λ word ws first read2.
        headed_spelled word (value_head word) xs ws v rest (λ else_. head_of_word word (value_head word) refl else_) ((a_word_reads xs ws word).0 first) read2)

    -- ---- requirements

    -- a value in the place of another, with what is left
    abbrev Becomes : ValueExpr → List Lexeme → ValueExpr → List Lexeme → Type 0
    Becomes t ws v rest = (value_lexemes t ++ ws ≡ value_lexemes v ++ rest) × IsValue scope v

    valued_spelled : (r : ValuedHead) (t : ValueExpr) (ws : List Lexeme) (v : ValueExpr) (rest : List Lexeme) → IsValue scope t
        → (required_at inner >>= λ u. pure (valued_of r t u)) ws ≡ Some (v, rest) → Becomes t (left_square ∷ Word (valued_word r) ∷ ws) v rest
    unfolding required_at
    valued_spelled r t ws v rest ok read =
        then_reads (required_at inner) _ ws v rest read (λ u last required read2.
        then_reads inner _ ws u last required (λ w left one read3.
        then_reads (the_symbol (codes "]")) _ left u last read3 (λ u2 left2 close read4.
        let same = some_pair_parts w u left2 last read4 in
        let is = some_pair_parts (valued_of r t u) v last rest read2 in
        let stood = sound ws w left one in
        let ends : ws ≡ (value_lexemes u ++ right_square ∷ []) ++ last =
        stood.0 ∙ (λ i. value_lexemes (same.0 i) ++ ((the_symbol_reads (codes "]") left left2).0 close ∙ ap (λ l. right_square ∷ l) same.1) i) ∙ sym (append_assoc (value_lexemes u) (right_square ∷ []) last) in (
          ap (λ l. value_lexemes t ++ left_square ∷ Word (valued_word r) ∷ l) ends ∙ sym (append_assoc (value_lexemes t) (in_squares (Word (valued_word r) ∷ value_lexemes u)) last)
              ∙ ap (λ l. l ++ last) (sym (valued_lexemes r t u)) ∙ (λ i. value_lexemes (is.0 i) ++ is.1 i),
          subst (IsValue scope) is.0 (valued_is_value scope r t u ok (subst (IsValue scope) same.0 stood.1)),
        ))))

    temp_spelled : (t : ValueExpr) (ws : List Lexeme) (v : ValueExpr) (rest : List Lexeme) → IsValue scope t
        → (the_symbol (codes "]") >> pure (WithTemp t)) ws ≡ Some (v, rest) → Becomes t (left_square ∷ Word (codes "temp") ∷ ws) v rest
    unfolding value_lexemes IsValue
    temp_spelled t ws v rest h read =
        then_reads (the_symbol (codes "]")) _ ws v rest read (λ u last close read2.
        let is = some_pair_parts (WithTemp t) v last rest read2 in (
          ap (λ l. value_lexemes t ++ left_square ∷ Word (codes "temp") ∷ l) ((the_symbol_reads (codes "]") ws last).0 close)
              ∙ sym (append_assoc (value_lexemes t) (in_squares (Word (codes "temp") ∷ [])) last) ∙ (λ i. value_lexemes (is.0 i) ++ is.1 i),
          subst (IsValue scope) is.0 h,
        ))

    requiring_spelled : (t : ValueExpr) (word : List ℕ) (h : RequirementHead) (ws : List Lexeme) (v : ValueExpr) (rest : List Lexeme) → IsValue scope t → ((requirement.Other ≡ h → ⊥) → word ≡ requirement_word h)
        → requiring inner t h ws ≡ Some (v, rest) → Becomes t (left_square ∷ Word word ∷ ws) v rest
    unfolding requirement_word
    requiring_spelled t word (requirement.Valued r) ws v rest ok is read = rw (is (λ e. cc)) (valued_spelled r t ws v rest ok read)
    requiring_spelled t word requirement.Temp ws v rest ok is read = rw (is (λ e. cc)) (temp_spelled t ws v rest ok read)
    requiring_spelled t word requirement.Other ws v rest ok is read = absurd cc

    requirement_spelled : (t : ValueExpr) (ws : List Lexeme) (v : ValueExpr) (rest : List Lexeme) → IsValue scope t → requirement_at inner t ws ≡ Some (v, rest) → Becomes t (left_square ∷ ws) v rest
    unfolding requirement_at
    requirement_spelled t ws v rest ok read =
        then_reads a_word _ ws v rest read (λ word left first read2.
        let stood = requiring_spelled t word (requirement_head word) left v rest ok (λ else_. requirement_of_word word (requirement_head word) refl else_) read2 in
        (ap (λ l. value_lexemes t ++ left_square ∷ l) ((a_word_reads ws left word).0 first) ∙ stood.0, stood.1))

    requirements_spelled : (n : ℕ) (t : ValueExpr) (ws : List Lexeme) (v : ValueExpr) (rest : List Lexeme) → IsValue scope t → requirements_at inner n t ws ≡ Some (v, rest) → Becomes t ws v rest
    unfolding requirements_at
    requirements_spelled zero t ws v rest ok read = let is = some_pair_parts t v ws rest read in ((λ i. value_lexemes (is.0 i) ++ is.1 i), subst (IsValue scope) is.0 ok)
    requirements_spelled (suc n) t ws v rest ok read =
        at (the_symbol (codes "[") ws) refl read (λ u mid h later. requirements_spelled n u mid v rest h later)
      where
        at : (found : Option (Unit {0} × List Lexeme)) → the_symbol (codes "[") ws ≡ found → turn inner (requirements_at inner n) t ws found ≡ Some (v, rest)
            → ((u : ValueExpr) (mid : List Lexeme) → IsValue scope u → requirements_at inner n u mid ≡ Some (v, rest) → Becomes u mid v rest) → Becomes t ws v rest
        at None none read later = let is = some_pair_parts t v ws rest read in ((λ i. value_lexemes (is.0 i) ++ is.1 i), subst (IsValue scope) is.0 ok)
        at (Some (u, left)) found read later =
            then_reads (requirement_at inner t) _ left v rest read (λ w mid one read2.
            let stood = requirement_spelled t left w mid ok one in
            let more = later w mid stood.1 read2 in
            (ap (λ l. value_lexemes t ++ l) ((the_symbol_reads (codes "[") ws left).0 found) ∙ stood.0 ∙ more.0, more.1))

    value_by_spelled : Spells (value_by scope inner) value_lexemes (IsValue scope)
    unfolding value_by
    value_by_spelled ws v rest read =
        then_reads (bare_at scope inner) _ ws v rest read (λ t left bare read2.
        let stood = bare_spelled ws t left bare in
        let more = requirements_spelled _ t left v rest stood.1 read2 in
        (stood.0 ∙ more.0, more.1))

  -- what is read as a value is spelled so
  pub value_is_spelled : (n : ℕ) → Spells (value_at scope n) value_lexemes (IsValue scope)
  unfolding value_at
  value_is_spelled zero ws v rest read = absurd cc
  value_is_spelled (suc n) ws v rest read = value_by_spelled (value_at scope n) (value_is_spelled n) ws v rest read
