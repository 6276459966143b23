-- The loops that read the items of a statement.
use Rattle.std.specs.Prelude.{is_some, IfNone}
use Rattle.std.proofs.Common.{true, false, ◌≡◌, ℕ, suc, ◌+◌, ◌-◌, ◌<◌, ◌≤◌, List, [], ◌∷◌, ◌++◌, Option, Some, None, refl, codes, arith}
use Rattle.star_model.specs.Sets.{single, union}
use Rattle.spelling.specs.Lexemes.{Lexeme}
use Rattle.spelling.specs.Reading.{Reader, Reads, the_symbol, a_number}
use Rattle.derivation_reading.specs.StatementReading.{up_to, member_of, members_behind}

one_turn : (n turn : ℕ) → turn < n → n - turn ≡ suc (n - (turn + 1))
one_turn n turn below = omega arith

no_turn : (n turn : ℕ) → n ≤ turn → n - turn ≡ 0
no_turn n turn above = omega arith

-- ---- items up to a count

module _ {A B : Type 0} (head : Reader A) (item : A → Option B) where
  -- nothing more is there
  pub up_to-stops : (n turn : ℕ) (done : List B) (lexemes : List Lexeme) → turn < n → head lexemes ≡ None → up_to head item (n - turn) done lexemes ≡ Some (done, lexemes)
  unfolding up_to
  up_to-stops n turn done lexemes below none = rw (one_turn n turn below, none) refl

  -- what is there is no item
  pub up_to-fails : (n turn : ℕ) (done : List B) (lexemes rest : List Lexeme) (x : A) → turn < n → head lexemes ≡ Some (x, rest) → item x ≡ None → up_to head item (n - turn) done lexemes ≡ None
  unfolding up_to
  up_to-fails n turn done lexemes rest x below there none = rw (one_turn n turn below, there, none) refl

  -- an item more
  pub up_to-goes : (n turn : ℕ) (done new : List B) (lexemes rest : List Lexeme) (x : A) (y : B) → turn < n → head lexemes ≡ Some (x, rest) → item x ≡ Some y → new ≡ done ++ y ∷ []
      → up_to head item (n - turn) done lexemes ≡ up_to head item (n - (turn + 1)) new rest
  unfolding up_to
  up_to-goes n turn done new lexemes rest x y below there is more = rw (one_turn n turn below, there, is, more) refl

  -- there may be no more
  pub up_to-ends : (n turn : ℕ) (done : List B) (lexemes : List Lexeme) → n ≤ turn → up_to head item (n - turn) done lexemes ≡ Some (done, lexemes)
  unfolding up_to
  up_to-ends n turn done lexemes above = rw (no_turn n turn above) refl

-- ---- the members of a set

pub no_number : (turn least set : ℕ) (lexemes : List Lexeme) → turn < 32 → a_number lexemes ≡ None → members_behind (32 - turn) least set lexemes ≡ None
unfolding members_behind
no_number turn least set lexemes below none = rw (one_turn 32 turn below, none) refl

pub no_member : (turn least set m : ℕ) (lexemes rest : List Lexeme) → turn < 32 → a_number lexemes ≡ Some (m, rest) → member_of least m ≡ None → members_behind (32 - turn) least set lexemes ≡ None
unfolding members_behind
no_member turn least set m lexemes rest below there none = rw (one_turn 32 turn below, there, none) refl

pub last_member : (turn least set new m k : ℕ) (lexemes rest last : List Lexeme) → turn < 32 → a_number lexemes ≡ Some (m, rest) → member_of least m ≡ Some k → the_symbol (codes "}") rest ≡ Some (tt, last)
    → new ≡ union set (single k) → members_behind (32 - turn) least set lexemes ≡ Some (new, last)
unfolding members_behind
last_member turn least set new m k lexemes rest last below there is closed more = rw (one_turn 32 turn below, there, is, closed, more) refl

pub no_comma : (turn least set m k : ℕ) (lexemes rest : List Lexeme) → turn < 32 → a_number lexemes ≡ Some (m, rest) → member_of least m ≡ Some k → the_symbol (codes "}") rest ≡ None
    → the_symbol (codes ",") rest ≡ None → members_behind (32 - turn) least set lexemes ≡ None
unfolding members_behind
no_comma turn least set m k lexemes rest below there is open_ none = rw (one_turn 32 turn below, there, is, open_, none) refl

pub one_more : (turn least set new m k : ℕ) (lexemes rest last : List Lexeme) → turn < 32 → a_number lexemes ≡ Some (m, rest) → member_of least m ≡ Some k → the_symbol (codes "}") rest ≡ None
    → the_symbol (codes ",") rest ≡ Some (tt, last) → new ≡ union set (single k) → members_behind (32 - turn) least set lexemes ≡ members_behind (32 - (turn + 1)) (k + 1) new last
unfolding members_behind
one_more turn least set new m k lexemes rest last below there is open_ comma more = rw (one_turn 32 turn below, there, is, open_, comma, more) refl

pub too_many : (turn least set : ℕ) (lexemes : List Lexeme) → 32 ≤ turn → members_behind (32 - turn) least set lexemes ≡ None
unfolding members_behind
too_many turn least set lexemes above = rw (no_turn 32 turn above) refl

-- ---- what a symbol's test says

pub is_there : {X : Type 0} (read : Option (X × List Lexeme)) (found : Option X) (rest : List Lexeme) → Reads read found rest → true ≡ is_some found → (x : X) × (read ≡ Some (x, rest))
is_there read None rest reads some = absurd cc
is_there read (Some x) rest reads some = (x, reads)

pub is_absent : {X : Type 0} (read : Option (X × List Lexeme)) (found : Option X) (rest : List Lexeme) → Reads read found rest → false ≡ is_some found → read ≡ None
is_absent read None rest reads some = reads
is_absent read (Some x) rest reads some = absurd cc

pub stays_there : {X : Type 0} (found : Option X) (before after : List Lexeme) → IfNone found (after ≡ before) → false ≡ is_some found → after ≡ before
stays_there None before after stays none = stays
stays_there (Some x) before after stays none = absurd cc
