-- What is read from the front of a list of lexemes stood there, and nothing else is read.
use Rattle.std.proofs.Common.{◌≡◌, ◌↔◌, ℕ, Bool, true, false, List, [], ◌∷◌, Some, refl, ap, ◌∙◌}
use Rattle.std.proofs.lemmas.Option.{some_pair_parts}
use Rattle.star_model.specs.Vectors.{same_numbers}
use Rattle.spelling.specs.Lexemes.{Lexeme, Word, Number, Text, Symbol}
use Rattle.spelling.specs.Reading.{the_word, the_symbol, a_word, a_number, a_text}
pub use Rattle.spelling.specs.ReadingCases.{then_reads}
use Rattle.star_model.proofs.Laws.{same_are, same_self}

pub the_word_reads : (wanted : List ℕ) (lexemes rest : List Lexeme) → (the_word wanted lexemes ≡ Some (tt, rest)) ↔ (lexemes ≡ Word wanted ∷ rest)
the_word_reads wanted lexemes rest = (to lexemes, λ is. rw is (rw (same_self wanted) refl))
  where
    at_test : (bytes : List ℕ) (left : List Lexeme) (test : Bool) → same_numbers bytes wanted ≡ test → the_word wanted (Word bytes ∷ left) ≡ Some (tt, rest) → Word bytes ∷ left ≡ Word wanted ∷ rest
    at_test bytes left true same read =
        let parts = some_pair_parts tt tt left rest (rw same at read) in
        ap (λ b. Word b ∷ left) (same_are bytes wanted same) ∙ ap (λ l. Word wanted ∷ l) parts.1
    at_test bytes left false same read = let none = rw same at read in absurd cc

    to : (lexemes : List Lexeme) → the_word wanted lexemes ≡ Some (tt, rest) → lexemes ≡ Word wanted ∷ rest
    to [] read = absurd cc
    to (Word bytes ∷ left) read = at_test bytes left (same_numbers bytes wanted) refl read
    to (Number n ∷ left) read = absurd cc
    to (Text bytes ∷ left) read = absurd cc
    to (Symbol bytes ∷ left) read = absurd cc

pub the_symbol_reads : (wanted : List ℕ) (lexemes rest : List Lexeme) → (the_symbol wanted lexemes ≡ Some (tt, rest)) ↔ (lexemes ≡ Symbol wanted ∷ rest)
the_symbol_reads wanted lexemes rest = (to lexemes, λ is. rw is (rw (same_self wanted) refl))
  where
    at_test : (bytes : List ℕ) (left : List Lexeme) (test : Bool) → same_numbers bytes wanted ≡ test → the_symbol wanted (Symbol bytes ∷ left) ≡ Some (tt, rest) → Symbol bytes ∷ left ≡ Symbol wanted ∷ rest
    at_test bytes left true same read =
        let parts = some_pair_parts tt tt left rest (rw same at read) in
        ap (λ b. Symbol b ∷ left) (same_are bytes wanted same) ∙ ap (λ l. Symbol wanted ∷ l) parts.1
    at_test bytes left false same read = let none = rw same at read in absurd cc

    to : (lexemes : List Lexeme) → the_symbol wanted lexemes ≡ Some (tt, rest) → lexemes ≡ Symbol wanted ∷ rest
    to [] read = absurd cc
    to (Word bytes ∷ left) read = absurd cc
    to (Number n ∷ left) read = absurd cc
    to (Text bytes ∷ left) read = absurd cc
    to (Symbol bytes ∷ left) read = at_test bytes left (same_numbers bytes wanted) refl read

pub a_word_reads : (lexemes rest : List Lexeme) (bytes : List ℕ) → (a_word lexemes ≡ Some (bytes, rest)) ↔ (lexemes ≡ Word bytes ∷ rest)
a_word_reads lexemes rest bytes = (to lexemes, λ is. rw is refl)
  where
    to : (lexemes : List Lexeme) → a_word lexemes ≡ Some (bytes, rest) → lexemes ≡ Word bytes ∷ rest
    to [] read = absurd cc
    to (Word found ∷ left) read = let e = some_pair_parts found bytes left rest read in ap (λ b. Word b ∷ left) e.0 ∙ ap (λ l. Word bytes ∷ l) e.1
    to (Number n ∷ left) read = absurd cc
    to (Text found ∷ left) read = absurd cc
    to (Symbol found ∷ left) read = absurd cc

pub a_number_reads : (lexemes rest : List Lexeme) (n : ℕ) → (a_number lexemes ≡ Some (n, rest)) ↔ (lexemes ≡ Number n ∷ rest)
a_number_reads lexemes rest n = (to lexemes, λ is. rw is refl)
  where
    to : (lexemes : List Lexeme) → a_number lexemes ≡ Some (n, rest) → lexemes ≡ Number n ∷ rest
    to [] read = absurd cc
    to (Word found ∷ left) read = absurd cc
    to (Number m ∷ left) read = let e = some_pair_parts m n left rest read in ap (λ b. Number b ∷ left) e.0 ∙ ap (λ l. Number n ∷ l) e.1
    to (Text found ∷ left) read = absurd cc
    to (Symbol found ∷ left) read = absurd cc

pub a_text_reads : (lexemes rest : List Lexeme) (bytes : List ℕ) → (a_text lexemes ≡ Some (bytes, rest)) ↔ (lexemes ≡ Text bytes ∷ rest)
a_text_reads lexemes rest bytes = (to lexemes, λ is. rw is refl)
  where
    to : (lexemes : List Lexeme) → a_text lexemes ≡ Some (bytes, rest) → lexemes ≡ Text bytes ∷ rest
    to [] read = absurd cc
    to (Word found ∷ left) read = absurd cc
    to (Number m ∷ left) read = absurd cc
    to (Text found ∷ left) read = let e = some_pair_parts found bytes left rest read in ap (λ b. Text b ∷ left) e.0 ∙ ap (λ l. Text bytes ∷ l) e.1
    to (Symbol found ∷ left) read = absurd cc
