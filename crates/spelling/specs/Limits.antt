-- The limits, in the order in which they are tested within a statement.
use Rattle.std.specs.Prelude.{ℕ, ◌<◌, ◌≤◌, ◌⊎◌, List, [], ◌∷◌, length}
use Rattle.star_model.specs.Limits.{most_name_bytes}
use Rattle.star_model.specs.declared.faults.LimitKind.{LimitKind}
use Rattle.star_model.specs.declared.faults.LimitKind.TheVariants as limit
use Rattle.star_model.specs.Numbers.{top}
use Rattle.spelling.specs.Lexemes.{Lexeme, Word, Number, Text, Symbol}

abbrev pub limit_rank : LimitKind → ℕ
limit_rank limit.Number = 0
limit_rank limit.Name = 1
limit_rank limit.File = 2
limit_rank limit.Params = 3
limit_rank limit.Alternatives = 4
limit_rank limit.ForAlls = 5
limit_rank limit.Stars = 6
limit_rank limit.Depth = 7
limit_rank limit.Formula = 8
limit_rank limit.Sites = 9
limit_rank limit.Tables = 10
limit_rank limit.Columns = 11
limit_rank limit.Indexes = 12
limit_rank limit.IndexColumns = 13
limit_rank limit.Quantifiers = 14
limit_rank limit.Predicates = 15
limit_rank limit.Select = 16
limit_rank limit.OrderBy = 17

-- of the limits that a statement goes beyond, this is the first
pub record IsFirstBeyond (Beyond : LimitKind → Type 0) (what : LimitKind) : Type 0 where
  pub beyond : Beyond what
  pub first : (other : LimitKind) → Beyond other → limit_rank what ≤ limit_rank other

-- a word of over 64 bytes is among the lexemes
abbrev pub HasLongWord : List Lexeme → Type 0
HasLongWord [] = ⊥
HasLongWord (Word bytes ∷ rest) = (most_name_bytes < length bytes) ⊎ HasLongWord rest
HasLongWord (Number n ∷ rest) = HasLongWord rest
HasLongWord (Text bytes ∷ rest) = HasLongWord rest
HasLongWord (Symbol bytes ∷ rest) = HasLongWord rest

-- a number beyond the greatest one is among the lexemes
abbrev pub HasGreatNumber : List Lexeme → Type 0
HasGreatNumber [] = ⊥
HasGreatNumber (Word bytes ∷ rest) = HasGreatNumber rest
HasGreatNumber (Number n ∷ rest) = (top < n) ⊎ HasGreatNumber rest
HasGreatNumber (Text bytes ∷ rest) = HasGreatNumber rest
HasGreatNumber (Symbol bytes ∷ rest) = HasGreatNumber rest
