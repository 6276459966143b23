-- Items with separators between are read as they are spelled. (No clause of a function can say so of every reader.)
use Rattle.std.specs.Prelude.{◌≡◌, ◌↔◌, ◌+◌, ◌<◌, ℕ, zero, suc, List, [], ◌∷◌, ◌++◌, length, map, Some, None}
use Rattle.std.proofs.Common.{refl, ap, sym, ◌∙◌, arith, append_assoc, length-append}
use Rattle.std.proofs.lemmas.Option.{some_pair_parts}
use Rattle.spelling.specs.Lexemes.{Lexeme, joined_by}
use Rattle.star_model.specs.Every.{HasItem, Every}
use Rattle.spelling.specs.Reading.{Reader}
use Rattle.spelling.specs.SeriesReading.{series_behind, series}
use Rattle.spelling.specs.ReadingCases.{then_reads, choose}

-- what is read is spelled
abbrev pub Spells : {A : Type 0} → Reader A → (A → List Lexeme) → (A → Type 0) → Type 0
Spells {A} item lexemes_of Good = (lexemes : List Lexeme) (x : A) (rest : List Lexeme) → item lexemes ≡ Some (x, rest) → (lexemes ≡ lexemes_of x ++ rest) × Good x

-- what is spelled is read before what follows
abbrev pub IsRead : {A : Type 0} → Reader A → (A → List Lexeme) → (A → Type 0) → (List Lexeme → Type 0) → Type 0
IsRead {A} item lexemes_of Good Follows = (x : A) (rest : List Lexeme) → Good x → Follows rest → item (lexemes_of x ++ rest) ≡ Some (x, rest)

-- a separator is one lexeme
abbrev pub Separates : Reader (Unit {0}) → Lexeme → Type 0
Separates separator between = (lexemes rest : List Lexeme) → (separator lexemes ≡ Some (tt, rest)) ↔ (lexemes ≡ between ∷ rest)

-- what stands behind the items of a list that has one
joined : (between : Lexeme) (x : List Lexeme) (xs : List (List Lexeme)) → HasItem xs → joined_by between (x ∷ xs) ≡ x ++ between ∷ joined_by between xs
joined between x [] some = absurd some
joined between x (y ∷ xs) some = refl

has_mapped : {A B : Type 0} (f : A → B) (xs : List A) → HasItem xs → HasItem (map f xs)
has_mapped f [] some = some
has_mapped f (x ∷ xs) some = tt

-- items that were read behind those that were done
record Found {A : Type 0} (lexemes_of : A → List Lexeme) (Good : A → Type 0) (between : Lexeme) (done : List A) (lexemes : List Lexeme) (all : List A) (rest : List Lexeme) : Type 0 where
  items : List A
  are : all ≡ done ++ items
  spelled : lexemes ≡ joined_by between (map lexemes_of items) ++ rest
  some : HasItem items
  good : Every Good items

module _ {A : Type 0} (item : Reader A) (lexemes_of : A → List Lexeme) (Good : A → Type 0) (separator : Reader (Unit {0})) (between : Lexeme) (sep : Separates separator between) where
  behind_spelled : Spells item lexemes_of Good → (n : ℕ) (done : List A) (lexemes : List Lexeme) (all : List A) (rest : List Lexeme) → series_behind item separator n done lexemes ≡ Some (all, rest)
      → Found lexemes_of Good between done lexemes all rest
  unfolding series_behind
  behind_spelled one zero done lexemes all rest read = absurd cc
  behind_spelled one (suc n) done lexemes all rest read =
      then_reads item _ lexemes all rest read (λ x left first next.
      let spelled = one lexemes x left first in
      choose separator _ _ left all rest next
      (λ _ later there read'.
      let more = behind_spelled one n (done ++ x ∷ []) later all rest read' in
      record {
        items = x ∷ more.items;
        are = more.are ∙ append_assoc done (x ∷ []) more.items;
        spelled = spelled.0 ∙ ap (λ l. lexemes_of x ++ l) ((sep left later).0 there ∙ ap (λ l. between ∷ l) more.spelled)
            ∙ sym (append_assoc (lexemes_of x) (between ∷ joined_by between (map lexemes_of more.items)) rest)
            ∙ ap (λ l. l ++ rest) (sym (joined between (lexemes_of x) (map lexemes_of more.items) (has_mapped lexemes_of more.items more.some)));
        some = tt;
        good = (spelled.1, more.good);
      })
      (λ end.
      let parts = some_pair_parts (done ++ x ∷ []) all left rest end in
      record {
        items = x ∷ [];
        are = sym parts.0;
        spelled = spelled.0 ∙ ap (λ l. lexemes_of x ++ l) parts.1;
        some = tt;
        good = (spelled.1, tt);
      }))

  pub series_spelled : Spells item lexemes_of Good → (lexemes : List Lexeme) (xs : List A) (rest : List Lexeme) → series item separator lexemes ≡ Some (xs, rest)
      → (lexemes ≡ joined_by between (map lexemes_of xs) ++ rest) × HasItem xs × Every Good xs
  series_spelled one lexemes xs rest read =
      let found = behind_spelled one (length lexemes + 1) [] lexemes xs rest read in
      rw found.are (found.spelled, found.some, found.good)

  module _ (Follows : List Lexeme → Type 0) (one : IsRead item lexemes_of Good Follows) (follows : (rest : List Lexeme) → Follows (between ∷ rest)) where
    behind_read : (n : ℕ) (done xs : List A) (rest : List Lexeme) → HasItem xs → Every Good xs → Follows rest → separator rest ≡ None
        → length (joined_by between (map lexemes_of xs) ++ rest) < n → series_behind item separator n done (joined_by between (map lexemes_of xs) ++ rest) ≡ Some (done ++ xs, rest)
    unfolding series_behind
    behind_read zero done xs rest has good last ends few = absurd (omega arith)
    behind_read (suc n) done [] rest has good last ends few = absurd has
    behind_read (suc n) done (x ∷ []) rest has good last ends few = rw (one x rest good.0 last) (rw ends refl)
    behind_read (suc n) done (x ∷ y ∷ xs) rest has good last ends few =
        let later : List Lexeme = joined_by between (map lexemes_of (y ∷ xs)) ++ rest in
        let split : (lexemes_of x ++ between ∷ joined_by between (map lexemes_of (y ∷ xs))) ++ rest ≡ lexemes_of x ++ between ∷ later = append_assoc (lexemes_of x) (between ∷ joined_by between (map lexemes_of (y ∷ xs))) rest in
        let count : length (lexemes_of x ++ between ∷ later) < suc n = rw split at few in
        let shorter : length later < n = omega (arith, count, length-append (lexemes_of x) (between ∷ later)) in
        let first = one x (between ∷ later) good.0 (follows later) in
        let tail = behind_read n (done ++ x ∷ []) (y ∷ xs) rest tt good.1 last ends shorter in
        rw split (rw first (rw ((sep (between ∷ later) later).1 refl) (tail ∙ ap (λ l. Some (l, rest)) (append_assoc done (x ∷ []) (y ∷ xs)))))

    pub series_read : (xs : List A) (rest : List Lexeme) → HasItem xs → Every Good xs → Follows rest → separator rest ≡ None
        → series item separator (joined_by between (map lexemes_of xs) ++ rest) ≡ Some (xs, rest)
    series_read xs rest has good last ends = behind_read _ [] xs rest has good last ends (omega arith)

-- each item of a list is shorter than the list with the separators
pub each_short : {A : Type 0} (lexemes_of : A → List Lexeme) (Good : A → Type 0) (between : Lexeme) (n : ℕ) (xs : List A) → Every Good xs → length (joined_by between (map lexemes_of xs)) < n
    → Every (λ x. Good x × (length (lexemes_of x) < n)) xs
each_short lexemes_of Good between n [] good few = tt
each_short lexemes_of Good between n (x ∷ []) good few = ((good.0, few), tt)
each_short lexemes_of Good between n (x ∷ y ∷ xs) good few =
    let count = length-append (lexemes_of x) (between ∷ joined_by between (map lexemes_of (y ∷ xs))) in
    ((good.0, omega (arith, count, few)), each_short lexemes_of Good between n (y ∷ xs) good.1 (omega (arith, count, few)))

-- ---- the steps of a loop

-- these are done, and what is left is read behind them
pub record Stands {A : Type 0} (item : Reader A) (separator : Reader (Unit {0})) (all : List Lexeme) (done : List A) (left : List Lexeme) : Type 0 where
  pub turns : ℕ
  pub enough : length left < turns
  pub is : series item separator all ≡ series_behind item separator turns done left

module _ {A : Type 0} (item : Reader A) (separator : Reader (Unit {0})) where
  pub begun : (all : List Lexeme) → Stands item separator all [] all
  begun all = record { turns = length all + 1; enough = omega arith; is = refl }

  -- no item
  pub stopped : (all : List Lexeme) (done : List A) (left : List Lexeme) → Stands item separator all done left → item left ≡ None → series item separator all ≡ None
  unfolding series_behind
  stopped all done left stands first = stands.is ∙ none stands.turns
    where
      none : (n : ℕ) → series_behind item separator n done left ≡ None
      none zero = refl
      none (suc n) = rw first refl

  -- the last item
  pub finished : (all : List Lexeme) (done : List A) (left : List Lexeme) (x : A) (rest : List Lexeme) → Stands item separator all done left → item left ≡ Some (x, rest) → separator rest ≡ None
      → series item separator all ≡ Some (done ++ x ∷ [], rest)
  unfolding series_behind
  finished all done left x rest stands first next = stands.is ∙ last stands.turns stands.enough
    where
      last : (n : ℕ) → length left < n → series_behind item separator n done left ≡ Some (done ++ x ∷ [], rest)
      last zero enough = absurd (omega (arith, enough))
      last (suc n) enough = rw (first, next) refl

  module _ (lexemes_of : A → List Lexeme) (Good : A → Type 0) (between : Lexeme) (one : Spells item lexemes_of Good) (sep : Separates separator between) where
    -- behind the separator less is left
    pub smaller : (left : List Lexeme) (x : A) (mid rest : List Lexeme) → item left ≡ Some (x, mid) → separator mid ≡ Some (tt, rest) → length rest < length left
    smaller left x mid rest first next =
        let spelled : length left ≡ length (lexemes_of x ++ mid) = ap (λ (l : List Lexeme). length l) (one left x mid first).0 in
        let passed : length mid ≡ length (between ∷ rest) = ap (λ (l : List Lexeme). length l) ((sep mid rest).0 next) in
        omega (arith, spelled, passed, length-append (lexemes_of x) mid)

    -- one item and a separator more
    pub went : (all : List Lexeme) (done : List A) (left : List Lexeme) (x : A) (mid rest : List Lexeme) → Stands item separator all done left → item left ≡ Some (x, mid) → separator mid ≡ Some (tt, rest)
        → Stands item separator all (done ++ x ∷ []) rest
    unfolding series_behind
    went all done left x mid rest stands first next = at stands.turns stands.enough stands.is
      where
        at : (n : ℕ) → length left < n → series item separator all ≡ series_behind item separator n done left → Stands item separator all (done ++ x ∷ []) rest
        at zero enough is = absurd (omega (arith, enough))
        at (suc n) enough is = record {
          turns = n;
          enough = omega (arith, smaller left x mid rest first next, enough);
          is = is ∙ rw (first, next) refl;
        }
