-- Which statement of a text is the first that isn't understood.
use Rattle.std.specs.Prelude.{ℕ, true, false, List}
use Rattle.spelling.specs.Lexemes.{Lexeme, MaybeEnded, statements_in}
use Rattle.spelling.specs.Firsts.{FirstAt}

-- the statement is ended, and its lexemes spell something
abbrev pub IsUnderstood : {A : Type 0} → (List Lexeme → A → Type 0) → MaybeEnded → Type 0
IsUnderstood {A} Spells (lexemes, true) = (x : A) × Spells lexemes x
IsUnderstood Spells (lexemes, false) = ⊥

-- the number, from 1, of the first statement that isn't understood, where the grammar is the same for each
abbrev pub IsStrangeAt : {A : Type 0} → (List Lexeme → A → Type 0) → List ℕ → ℕ → Type 0
IsStrangeAt Spells text k = FirstAt (λ before statement. IsUnderstood Spells statement → ⊥) (statements_in text) k
