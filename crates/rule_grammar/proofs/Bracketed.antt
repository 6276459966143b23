-- Items in brackets: what is spelled is read, and what is read is spelled.
use Rattle.std.proofs.Common.{◌≡◌, ℕ, List, [], ◌∷◌, ◌++◌, Some, codes, refl, sym, ap, ◌∙◌, subst, append_assoc}
use Rattle.std.proofs.lemmas.Option.{some_pair_parts}
use Rattle.spelling.specs.Lexemes.{Lexeme, Word, left_bracket, right_bracket, comma, joined_by, bracketed}
use Rattle.spelling.specs.Reading.{Reader, ◌>>=◌, pure, the_symbol}
use Rattle.rule_grammar.specs.ValueReading.{one_at, last_two_at, two_at}
use Rattle.spelling.specs.SeriesReadingCases.{Spells}
use Rattle.spelling.proofs.Laws.{the_symbol_reads, then_reads}

-- ---- where brackets close

pub one_ends : (a rest : List Lexeme) → (a ++ right_bracket ∷ []) ++ rest ≡ a ++ right_bracket ∷ rest
one_ends a rest = append_assoc a (right_bracket ∷ []) rest

pub two_ends : (a b rest : List Lexeme) → ((a ++ comma ∷ b) ++ right_bracket ∷ []) ++ rest ≡ a ++ comma ∷ (b ++ right_bracket ∷ rest)
two_ends a b rest =
    append_assoc (a ++ comma ∷ b) (right_bracket ∷ []) rest ∙ append_assoc a (comma ∷ b) (right_bracket ∷ rest)

pub three_ends : (a b c rest : List Lexeme) → ((a ++ comma ∷ (b ++ comma ∷ c)) ++ right_bracket ∷ []) ++ rest ≡ a ++ comma ∷ (b ++ comma ∷ (c ++ right_bracket ∷ rest))
three_ends a b c rest =
    append_assoc (a ++ comma ∷ (b ++ comma ∷ c)) (right_bracket ∷ []) rest ∙ append_assoc a (comma ∷ (b ++ comma ∷ c)) (right_bracket ∷ rest)
    ∙ ap (λ l. a ++ comma ∷ l) (append_assoc b (comma ∷ c) (right_bracket ∷ rest))

-- ---- what is spelled is read

module _ {A : Type 0} (item : Reader A) where
  pub one_read : (x : A) (ws rest : List Lexeme) → item ws ≡ Some (x, right_bracket ∷ rest) → one_at item (left_bracket ∷ ws) ≡ Some (x, rest)
  unfolding one_at
  one_read x ws rest e = rw e refl

  pub last_two_read : (x y : A) (ws mid rest : List Lexeme) → item ws ≡ Some (x, comma ∷ mid) → item mid ≡ Some (y, right_bracket ∷ rest) → last_two_at item ws ≡ Some ((x, y), rest)
  unfolding last_two_at
  last_two_read x y ws mid rest d e = rw (d, e) refl

  pub two_read : (x y : A) (ws mid rest : List Lexeme) → item ws ≡ Some (x, comma ∷ mid) → item mid ≡ Some (y, right_bracket ∷ rest) → two_at item (left_bracket ∷ ws) ≡ Some ((x, y), rest)
  unfolding two_at
  two_read x y ws mid rest d e = last_two_read x y ws mid rest d e

-- ---- what is read is spelled

-- what is read stood there, as it is spelled, and is as it has to be
abbrev pub IsSpelled : {A : Type 0} → (A → List Lexeme) → (A → Type 0) → List Lexeme → A → List Lexeme → Type 0
IsSpelled spell Ok ws x rest = (ws ≡ spell x ++ rest) × Ok x

module _ {A : Type 0} (spell : A → List Lexeme) (Ok : A → Type 0) (item : Reader A) (sound : Spells item spell Ok) where
  pub one_spelled : Spells (one_at item) (λ x. bracketed (joined_by comma (spell x ∷ []))) Ok
  unfolding one_at
  one_spelled ws x rest read =
      then_reads (the_symbol (codes "(")) _ ws x rest read (λ u left opens read2.
      then_reads item _ left x rest read2 (λ y mid one read3.
      then_reads (the_symbol (codes ")")) _ mid x rest read3 (λ u2 last close read4.
      let is = some_pair_parts y x last rest read4 in
      let stood = sound left y mid one in (
        (the_symbol_reads (codes "(") ws left).0 opens
            ∙ ap (λ l. left_bracket ∷ l) (stood.0 ∙ (λ i. spell (is.0 i) ++ ((the_symbol_reads (codes ")") mid last).0 close ∙ ap (λ l. right_bracket ∷ l) is.1) i) ∙ sym (one_ends (spell x) rest)),
        subst Ok is.0 stood.1,
      ))))

  abbrev pub BothOk : A × A → Type 0
  BothOk p = Ok p.0 × Ok p.1

  pub last_two_spelled : Spells (last_two_at item) (λ (p : A × A). spell p.0 ++ comma ∷ (spell p.1 ++ right_bracket ∷ [])) BothOk
  unfolding last_two_at
  last_two_spelled ws p rest read =
      then_reads item _ ws p rest read (λ x left first read2.
      then_reads (the_symbol (codes ",")) _ left p rest read2 (λ u mid between read3.
      then_reads item _ mid p rest read3 (λ y later second read4.
      then_reads (the_symbol (codes ")")) _ later p rest read4 (λ u2 last close read5.
      let is = some_pair_parts (x, y) p last rest read5 in
      let one = sound ws x left first in
      let two = sound mid y later second in
      let ends = (the_symbol_reads (codes ")") later last).0 close ∙ ap (λ l. right_bracket ∷ l) is.1 in
      let behind = two.0 ∙ ap (λ l. spell y ++ l) ends ∙ sym (append_assoc (spell y) (right_bracket ∷ []) rest) in
      let commas = (the_symbol_reads (codes ",") left mid).0 between ∙ ap (λ l. comma ∷ l) behind in (
        one.0 ∙ ap (λ l. spell x ++ l) commas ∙ sym (append_assoc (spell x) (comma ∷ (spell y ++ right_bracket ∷ [])) rest)
            ∙ ap (λ (q : A × A). (spell q.0 ++ comma ∷ (spell q.1 ++ right_bracket ∷ [])) ++ rest) is.0,
        subst BothOk is.0 (one.1, two.1),
      )))))

  pub two_spelled : Spells (two_at item) (λ (p : A × A). bracketed (joined_by comma (spell p.0 ∷ spell p.1 ∷ []))) BothOk
  unfolding two_at
  two_spelled ws p rest read =
      then_reads (the_symbol (codes "(")) _ ws p rest read (λ u left opens read2.
      let stood = last_two_spelled left p rest read2 in (
        (the_symbol_reads (codes "(") ws left).0 opens
            ∙ ap (λ l. left_bracket ∷ l) (stood.0 ∙ append_assoc (spell p.0) (comma ∷ (spell p.1 ++ right_bracket ∷ [])) rest
            ∙ ap (λ l. spell p.0 ++ comma ∷ l) (append_assoc (spell p.1) (right_bracket ∷ []) rest) ∙ sym (two_ends (spell p.0) (spell p.1) rest)),
        stood.1,
      ))

-- what is made of an item behind a word
module _ {A B : Type 0} (items : A → List Lexeme) (Ok : A → Type 0) (read : Reader A) (sound : Spells read items Ok)
    (spell : B → List Lexeme) (Good : B → Type 0) (make : A → B) (word : List ℕ)
    (lexemes : (x : A) → spell (make x) ≡ Word word ∷ items x) (good : (x : A) → Ok x → Good (make x)) where
  pub made_spelled : (xs ws : List Lexeme) (y : B) (rest : List Lexeme) → xs ≡ Word word ∷ ws → (read >>= λ x. pure (make x)) ws ≡ Some (y, rest) → IsSpelled spell Good xs y rest
  made_spelled xs ws y rest first found =
      then_reads read _ ws y rest found (λ x left one found2.
      let is = some_pair_parts (make x) y left rest found2 in
      let stood = sound ws x left one in
      (first ∙ ap (λ l. Word word ∷ l) stood.0 ∙ ap (λ l. l ++ left) (sym (lexemes x)) ∙ (λ i. spell (is.0 i) ++ is.1 i), subst Good is.0 (good x stood.1)))
