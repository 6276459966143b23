-- Tables of words, as code has them.
use Rattle.std.specs.Prelude.{ℕ, List, map}
use denote.Ref.{Bor}

-- each word, and what stands beside it
abbrev pub spellings : {A : Type 0} → List (Bor (List ℕ) × A) → List (List ℕ × A)
spellings rows = map (λ row. (row.0.now, row.1)) rows

abbrev pub listed : List (Bor (List ℕ)) → List (List ℕ)
listed words = map (λ word. word.now) words
