-- What values and ranges are spelled as is read as these. So none is the beginning of another, a value where no square bracket follows.
use Rattle.std.proofs.Common.{◌≡◌, ℕ, zero, suc, ◌+◌, ◌-◌, ◌<◌, ◌≤◌, List, [], ◌∷◌, ◌++◌, length, Some, codes, refl, sym, ap, ◌∙◌, subst, arith, append_assoc, length-append}
use Rattle.star_model.specs.declared.rules.ValueExpr.{ValueExpr}
use Rattle.star_model.specs.declared.rules.ValueExpr.TheVariants as plain
use Rattle.star_model.specs.ValueCases.{WithOrder, WithSite, WithTemp, WithPath, Tables, Inside, Crossing, Between, Equalities, Indexable, Columns, Keys, Home, Union, Minus, Meet}
use Rattle.rule_grammar.specs.declared.words.ConstantHead.{ConstantHead}
use Rattle.rule_grammar.specs.declared.words.ConstantHead.TheVariants as constant
use Rattle.rule_grammar.specs.declared.words.UnaryHead.{UnaryHead}
use Rattle.rule_grammar.specs.declared.words.UnaryHead.TheVariants as unary
use Rattle.rule_grammar.specs.declared.words.BinaryHead.{BinaryHead}
use Rattle.rule_grammar.specs.declared.words.BinaryHead.TheVariants as binary
use Rattle.rule_grammar.specs.declared.words.ValuedHead.{ValuedHead}
use Rattle.rule_grammar.specs.declared.words.ValuedHead.TheVariants as valued
use Rattle.spelling.specs.Lexemes.{Lexeme, Word, left_square, right_square, left_bracket, right_bracket, comma}
use Rattle.spelling.specs.Reading.{Reader, ◌>>=◌}
use Rattle.star_model.specs.WellFormedRules.{Scope, IsName, place_among, IsValue}
use Rattle.rule_grammar.specs.Values.{value_lexemes, in_squares}
use Rattle.rule_grammar.specs.ValueReading as reading
use Rattle.rule_grammar.specs.ValueReading.{constant_of, unary_of, binary_of, valued_of, variable_at, value_head, indexable_at, bare_at, required_at, requirement_at, requirement_head, requirements_at, value_by, value_at}
use Rattle.rule_grammar.proofs.Bracketed.{one_ends, two_ends, three_ends, one_read, last_two_read, two_read}
use Rattle.rule_grammar.proofs.RuleHeads.{constant_word, unary_word, binary_word, constant_head, unary_head, binary_head, name_head, constant_lexemes, unary_lexemes, binary_lexemes, valued_word, valued_head, valued_lexemes}

pub len : (a b : List Lexeme) → length (a ++ b) ≡ length a + length b
len a b = length-append a b

square_ends : (word : List ℕ) (a b rest : List Lexeme) → (a ++ in_squares (Word word ∷ b)) ++ rest ≡ a ++ left_square ∷ Word word ∷ (b ++ right_square ∷ rest)
square_ends word a b rest =
    append_assoc a (in_squares (Word word ∷ b)) rest ∙ ap (λ l. a ++ left_square ∷ Word word ∷ l) (append_assoc b (right_square ∷ []) rest)

module _ (scope : Scope) where
  record Stands (n : ℕ) (ws : List Lexeme) (v : ValueExpr) (rest : List Lexeme) : Type 0 where
    turns : ℕ
    enough : length rest ≤ turns
    is : value_by scope (value_at scope n) ws ≡ requirements_at (value_at scope n) turns v rest

  -- how the lexemes of a value are read before any others
  Claim : ValueExpr → Type 0
  Claim v = (n : ℕ) (rest : List Lexeme) → length (value_lexemes v) ≤ n → Stands n (value_lexemes v ++ rest) v rest

  rests : (inner : Reader ValueExpr) (n : ℕ) (v : ValueExpr) (rest : List Lexeme) → reading.NoSquare rest → requirements_at inner n v rest ≡ Some (v, rest)
  unfolding requirements_at
  rests inner zero v rest none = refl
  rests inner (suc n) v rest none = ap (λ o. reading.turn inner (requirements_at inner n) v rest o) none

  begun : (n : ℕ) (ws rest : List Lexeme) (v : ValueExpr) → bare_at scope (value_at scope n) ws ≡ Some (v, rest) → Stands n ws v rest
  unfolding value_by
  begun n ws rest v e = record { turns = length rest; enough = omega arith; is = rw e refl }

  -- a value inside another
  inside : (v : ValueExpr) (n : ℕ) (rest : List Lexeme) → Claim v → length (value_lexemes v) < n → reading.NoSquare rest → (ws : List Lexeme) → ws ≡ value_lexemes v ++ rest → value_at scope n ws ≡ Some (v, rest)
  unfolding value_at Claim
  inside v zero rest claim less none ws e = absurd (omega arith)
  inside v (suc n) rest claim less none ws e =
      let st = claim n rest (omega arith) in
      ap (value_by scope (value_at scope n)) e ∙ st.is ∙ rests (value_at scope n) st.turns v rest none

  -- ---- bare values, read where `inner` reads the values inside

  module _ (inner : Reader ValueExpr) where
    free_read : (name : List ℕ) (rest : List Lexeme) → IsName scope.version name → bare_at scope inner (Word name ∷ rest) ≡ Some (plain.Variable name (place_among scope.names name), rest)
    unfolding bare_at variable_at
    free_read name rest free = rw (name_head scope.version name free) (rw free refl)

    constant_read : (c : ConstantHead) (rest : List Lexeme) → bare_at scope inner (Word (constant_word c) ∷ rest) ≡ Some (constant_of c, rest)
    unfolding bare_at
    constant_read c rest = rw (constant_head c) refl

    unary_read : (f : UnaryHead) (x : ValueExpr) (ws rest : List Lexeme) → reading.one_at inner ws ≡ Some (x, rest) → bare_at scope inner (Word (unary_word f) ∷ ws) ≡ Some (unary_of f x, rest)
    unfolding bare_at
    unary_read f x ws rest e = rw (unary_head f, e) refl

    binary_read : (f : BinaryHead) (x y : ValueExpr) (ws rest : List Lexeme) → reading.two_at inner ws ≡ Some ((x, y), rest) → bare_at scope inner (Word (binary_word f) ∷ ws) ≡ Some (binary_of f x y, rest)
    unfolding bare_at
    binary_read f x y ws rest e = rw (binary_head f, e) refl

    indexable_read : (t x y : ValueExpr) (ws mid rest : List Lexeme) → inner ws ≡ Some (t, comma ∷ mid) → reading.last_two_at inner mid ≡ Some ((x, y), rest)
        → bare_at scope inner (Word (codes "indexable") ∷ left_bracket ∷ ws) ≡ Some (Indexable t x y, rest)
    unfolding bare_at indexable_at value_head
    indexable_read t x y ws mid rest d e = rw (d, e) refl

    -- ---- requirements

    one_turn : (n : ℕ) (t : ValueExpr) (ws : List Lexeme) → 0 < n → requirements_at inner n t (left_square ∷ ws) ≡ (requirement_at inner t >>= requirements_at inner (n - 1)) ws
    unfolding requirements_at
    one_turn zero t ws h = absurd (omega arith)
    one_turn (suc n) t ws h = let e : n ≡ suc n - 1 = omega arith in ap (λ k. (requirement_at inner t >>= requirements_at inner k) ws) e

    required_read : (v : ValueExpr) (ws rest : List Lexeme) → inner ws ≡ Some (v, right_square ∷ rest) → required_at inner ws ≡ Some (v, rest)
    unfolding required_at
    required_read v ws rest e = rw e refl

    valued_read : (r : ValuedHead) (t v : ValueExpr) (ws rest : List Lexeme) → required_at inner ws ≡ Some (v, rest) → requirement_at inner t (Word (valued_word r) ∷ ws) ≡ Some (valued_of r t v, rest)
    unfolding requirement_at
    valued_read r t v ws rest e = rw (valued_head r, e) refl

    temp_read : (t : ValueExpr) (rest : List Lexeme) → requirement_at inner t (Word (codes "temp") ∷ right_square ∷ rest) ≡ Some (WithTemp t, rest)
    unfolding requirement_at requirement_head
    temp_read t rest = refl

  -- one more square bracket
  went : (n : ℕ) (ws after rest : List Lexeme) (t u : ValueExpr) → Stands n ws t (left_square ∷ after) → requirement_at (value_at scope n) t after ≡ Some (u, rest) → length rest ≤ length after → Stands n ws u rest
  went n ws after rest t u st found less = record {
    turns = st.turns - 1;
    enough = omega (arith, st.enough);
    is = st.is ∙ one_turn (value_at scope n) st.turns t after (omega (arith, st.enough)) ∙ rw found refl;
  }

  -- ---- the claims

  free_claim : (name : List ℕ) (place : ℕ) → IsName scope.version name → place ≡ place_among scope.names name → Claim (plain.Variable name place)
  unfolding Claim value_lexemes
  free_claim name place free is = λ n rest le.
      begun n (Word name ∷ rest) rest (plain.Variable name place) (free_read (value_at scope n) name rest free ∙ ap (λ p. Some (plain.Variable name p, rest)) (sym is))

  constant_claim : (c : ConstantHead) → Claim (constant_of c)
  unfolding Claim
  constant_claim c = λ n rest le.
      begun n (value_lexemes (constant_of c) ++ rest) rest (constant_of c) (ap (λ ws. bare_at scope (value_at scope n) (ws ++ rest)) (constant_lexemes c) ∙ constant_read (value_at scope n) c rest)

  unary_claim : (f : UnaryHead) (v : ValueExpr) → Claim v → Claim (unary_of f v)
  unfolding Claim
  unary_claim f v claim = λ n rest le.
      let a = value_lexemes v in
      let e = unary_lexemes f v in
      let l = ap length e in
      let m = len a (right_bracket ∷ []) in
      let one = one_read (value_at scope n) v ((a ++ right_bracket ∷ []) ++ rest) rest (inside v n (right_bracket ∷ rest) claim (omega (arith, l, m, le)) refl _ (one_ends a rest)) in
      begun n (value_lexemes (unary_of f v) ++ rest) rest (unary_of f v)
      (ap (λ ws. bare_at scope (value_at scope n) (ws ++ rest)) e ∙ unary_read (value_at scope n) f v (left_bracket ∷ ((a ++ right_bracket ∷ []) ++ rest)) rest one)

  binary_claim : (f : BinaryHead) (v w : ValueExpr) → Claim v → Claim w → Claim (binary_of f v w)
  unfolding Claim
  binary_claim f v w claim claim' = λ n rest le.
      let a = value_lexemes v in
      let b = value_lexemes w in
      let e = binary_lexemes f v w in
      let l = ap length e in
      let m = len (a ++ comma ∷ b) (right_bracket ∷ []) in
      let k = len a (comma ∷ b) in
      let two = two_read (value_at scope n) v w (((a ++ comma ∷ b) ++ right_bracket ∷ []) ++ rest) (b ++ right_bracket ∷ rest) rest
      (inside v n (comma ∷ (b ++ right_bracket ∷ rest)) claim (omega (arith, l, m, k, le)) refl _ (two_ends a b rest))
      (inside w n (right_bracket ∷ rest) claim' (omega (arith, l, m, k, le)) refl _ refl) in
      begun n (value_lexemes (binary_of f v w) ++ rest) rest (binary_of f v w)
      (ap (λ ws. bare_at scope (value_at scope n) (ws ++ rest)) e ∙ binary_read (value_at scope n) f v w (left_bracket ∷ (((a ++ comma ∷ b) ++ right_bracket ∷ []) ++ rest)) rest two)

  indexable_claim : (v w u : ValueExpr) → Claim v → Claim w → Claim u → Claim (Indexable v w u)
  unfolding Claim value_lexemes
  indexable_claim v w u claim claim' claim'' = λ n rest le.
      let a = value_lexemes v in
      let b = value_lexemes w in
      let c = value_lexemes u in
      let m = len (a ++ comma ∷ (b ++ comma ∷ c)) (right_bracket ∷ []) in
      let k = len a (comma ∷ (b ++ comma ∷ c)) in
      let j = len b (comma ∷ c) in
      let last = last_two_read (value_at scope n) w u (b ++ comma ∷ (c ++ right_bracket ∷ rest)) (c ++ right_bracket ∷ rest) rest
      (inside w n (comma ∷ (c ++ right_bracket ∷ rest)) claim' (omega (arith, m, k, j, le)) refl _ refl)
      (inside u n (right_bracket ∷ rest) claim'' (omega (arith, m, k, j, le)) refl _ refl) in
      begun n (value_lexemes (Indexable v w u) ++ rest) rest (Indexable v w u)
      (indexable_read (value_at scope n) v w u (((a ++ comma ∷ (b ++ comma ∷ c)) ++ right_bracket ∷ []) ++ rest) (b ++ comma ∷ (c ++ right_bracket ∷ rest)) rest
      (inside v n (comma ∷ (b ++ comma ∷ (c ++ right_bracket ∷ rest))) claim (omega (arith, m, k, j, le)) refl _ (three_ends a b c rest)) last)

  valued_claim : (r : ValuedHead) (t v : ValueExpr) → Claim t → Claim v → Claim (valued_of r t v)
  unfolding Claim
  valued_claim r t v claim claim' = λ n rest le.
      let word = valued_word r in
      let e = valued_lexemes r t v in
      let a = value_lexemes t in
      let b = value_lexemes v in
      let l = ap length e in
      let m = len a (in_squares (Word word ∷ b)) in
      let k = len b (right_square ∷ []) in
      let j = len b (right_square ∷ rest) in
      let st = claim n (left_square ∷ Word word ∷ (b ++ right_square ∷ rest)) (omega (arith, l, m, k, le)) in
      let st' = subst (λ ws. Stands n ws t (left_square ∷ Word word ∷ (b ++ right_square ∷ rest))) (sym (ap (λ ws. ws ++ rest) e ∙ square_ends word a b rest)) st in
      went n (value_lexemes (valued_of r t v) ++ rest) (Word word ∷ (b ++ right_square ∷ rest)) rest t (valued_of r t v) st'
      (valued_read (value_at scope n) r t v (b ++ right_square ∷ rest) rest
      (required_read (value_at scope n) v (b ++ right_square ∷ rest) rest (inside v n (right_square ∷ rest) claim' (omega (arith, l, m, k, le)) refl _ refl))) (omega (arith, j))

  temp_claim : (t : ValueExpr) → Claim t → Claim (WithTemp t)
  unfolding Claim value_lexemes
  temp_claim t claim = λ n rest le.
      let a = value_lexemes t in
      let m = len a (in_squares (Word (codes "temp") ∷ [])) in
      let st = claim n (left_square ∷ Word (codes "temp") ∷ right_square ∷ rest) (omega (arith, m, le)) in
      let st' = subst (λ ws. Stands n ws t (left_square ∷ Word (codes "temp") ∷ right_square ∷ rest)) (sym (append_assoc a (in_squares (Word (codes "temp") ∷ [])) rest)) st in
      went n (value_lexemes (WithTemp t) ++ rest) (Word (codes "temp") ∷ right_square ∷ rest) rest t (WithTemp t) st' (temp_read (value_at scope n) t rest) (omega arith)

  all_claims : (v : ValueExpr) → IsValue scope v → Claim v
  unfolding IsValue value_lexemes
  all_claims (plain.Variable name place) h = free_claim name place h.0 h.1
  all_claims (WithOrder t v) h = valued_claim valued.Order t v (all_claims t h.0) (all_claims v h.1)
  all_claims (WithSite t v) h = valued_claim valued.Site t v (all_claims t h.0) (all_claims v h.1)
  all_claims (WithPath t v) h = valued_claim valued.Path t v (all_claims t h.0) (all_claims v h.1)
  all_claims (WithTemp t) h = temp_claim t (all_claims t h)
  all_claims plain.All h = constant_claim constant.All
  all_claims plain.NoPreds h = constant_claim constant.NoPreds
  all_claims plain.NoCols h = constant_claim constant.NoCols
  all_claims plain.OrderBy h = constant_claim constant.OrderBy
  all_claims plain.QuerySite h = constant_claim constant.QuerySite
  all_claims (Tables v) h = unary_claim unary.Tables v (all_claims v h)
  all_claims (Inside v) h = unary_claim unary.Inside v (all_claims v h)
  all_claims (Crossing v) h = unary_claim unary.Crossing v (all_claims v h)
  all_claims (Equalities v) h = unary_claim unary.Equalities v (all_claims v h)
  all_claims (Home v) h = unary_claim unary.Home v (all_claims v h)
  all_claims (Between v w) h = binary_claim binary.Between v w (all_claims v h.0) (all_claims w h.1)
  all_claims (Columns v w) h = binary_claim binary.Columns v w (all_claims v h.0) (all_claims w h.1)
  all_claims (Keys v w) h = binary_claim binary.Keys v w (all_claims v h.0) (all_claims w h.1)
  all_claims (Union v w) h = binary_claim binary.Union v w (all_claims v h.0) (all_claims w h.1)
  all_claims (Minus v w) h = binary_claim binary.Minus v w (all_claims v h.0) (all_claims w h.1)
  all_claims (Meet v w) h = binary_claim binary.Meet v w (all_claims v h.0) (all_claims w h.1)
  all_claims (Indexable t x v) h = indexable_claim t x v (all_claims t h.0) (all_claims x h.1) (all_claims v h.2)

  -- a spelled value is read
  pub value_is_read : (n : ℕ) (v : ValueExpr) (rest : List Lexeme) → IsValue scope v → length (value_lexemes v) < n → reading.NoSquare rest → value_at scope n (value_lexemes v ++ rest) ≡ Some (v, rest)
  value_is_read n v rest h less none = inside v n rest (all_claims v h) less none (value_lexemes v ++ rest) refl
