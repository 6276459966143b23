-- How the head of a formula's statement is read.
use Rattle.std.specs.Prelude.{ℕ, List, Option, Some, None, codes, if◌then◌else◌}
use Rattle.star_model.specs.Vectors.{same_numbers}
use Rattle.star_model.specs.declared.rules.Flavour.{Flavour}
use Rattle.star_model.specs.declared.rules.Which.{Which}
use Rattle.star_model.specs.declared.rules.Which.TheVariants as which
use Rattle.spelling.specs.Reading.{Reader, ◌>>=◌, ◌>>◌, pure, given, a_word, the_symbol}
use Rattle.star_model.specs.FlavourWords.{flavour_in}

-- the cost that is so called
unfoldable pub which_of : List ℕ → Option Which
which_of word =
    if same_numbers word (codes "cost") then Some which.Cost else if same_numbers word (codes "rescan") then Some which.Rescan else None

pub record FormulaHead : Type 0 where
  pub which : Which
  pub flavour : Flavour

-- the cost and the operator, up to the `=`, in a rule file of this version
unfoldable pub formula_head_at : ℕ → Reader FormulaHead
formula_head_at version = do
  first ← a_word
  which ← given (which_of first)
  second ← a_word
  flavour ← given (flavour_in version second)
  the_symbol (codes "=")
  pure (record { which = which; flavour = flavour })
