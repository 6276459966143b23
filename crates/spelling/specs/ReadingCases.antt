-- What readers read one after the other, or one or the other. (No clause of a function can say so of every reader.)
use Rattle.std.specs.Prelude.{◌≡◌, List, [], ◌∷◌, Option, Some, None, option_map}
use Rattle.std.proofs.Common.{refl, ap}
use Rattle.std.proofs.lemmas.Option.{option_and_then_some, some_pair_parts}
use Rattle.spelling.specs.Lexemes.{Lexeme}
use Rattle.spelling.specs.Reading.{Reader, ◌>>=◌, ◌>>◌, given, chosen, either, only}

-- what is read by one reader after another is read by each
pub then_reads : {A B P : Type 0} (first : Reader A) (next : A → Reader B) (lexemes : List Lexeme) (y : B) (rest : List Lexeme) → (first >>= next) lexemes ≡ Some (y, rest)
    → ((x : A) (left : List Lexeme) → first lexemes ≡ Some (x, left) → next x left ≡ Some (y, rest) → P) → P
then_reads first next lexemes y rest read k = option_and_then_some (λ found. next found.0 found.1) (first lexemes) (y, rest) read (λ x. k x.0 x.1)

-- what is passed, and then what is read
pub pass : {B P : Type 0} (first : Reader (Unit {0})) (next : Reader B) (lexemes : List Lexeme) (y : B) (rest : List Lexeme) → (first >> next) lexemes ≡ Some (y, rest)
    → ((left : List Lexeme) → first lexemes ≡ Some (tt, left) → next left ≡ Some (y, rest) → P) → P
pass first next lexemes y rest read k = option_and_then_some (λ found. next found.1) (first lexemes) (y, rest) read (λ x. k x.1)

-- what is read behind the first, or as the other
pub choose : {A B P : Type 0} (first : Reader A) (next : A → Reader B) (other : Reader B) (lexemes : List Lexeme) (y : B) (rest : List Lexeme) → either first next other lexemes ≡ Some (y, rest)
    → ((x : A) (left : List Lexeme) → first lexemes ≡ Some (x, left) → next x left ≡ Some (y, rest) → P)
    → (other lexemes ≡ Some (y, rest) → P) → P
choose {A} {P} first next other lexemes y rest read there else_ = at (first lexemes) refl read
  where
    at : (found : Option (A × List Lexeme)) → first lexemes ≡ found → chosen found next other lexemes ≡ Some (y, rest) → P
    at None is then_ = else_ then_
    at (Some found) is then_ = there found.0 found.1 is then_

-- what is given is there, and nothing is passed
pub given_reads : {A : Type 0} (found : Option A) (lexemes : List Lexeme) (x : A) (rest : List Lexeme) → given found lexemes ≡ Some (x, rest) → (found ≡ Some x) × (lexemes ≡ rest)
given_reads None lexemes x rest read = absurd cc
given_reads (Some y) lexemes x rest read = let parts = some_pair_parts y x lexemes rest read in (ap (λ z. Some z) parts.0, parts.1)

-- what is read of all of the lexemes leaves none
pub only_reads : {A : Type 0} (read : Option (A × List Lexeme)) (x : A) → only read ≡ Some x → read ≡ Some (x, [])
only_reads None x is = absurd cc
only_reads (Some (y, [])) x is = ap (λ found. option_map (λ z. (z, [])) found) is
only_reads (Some (y, lexeme ∷ later)) x is = absurd cc
