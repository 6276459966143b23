-- The values of the parameters of a root STAR.
use Rattle.std.specs.Prelude.{ℕ, List, [], ◌∷◌, Option, Some, None}
use Rattle.star_model.specs.Meaning.{plain}
use Rattle.star_model.specs.declared.values.RuleValue.{RuleValue}
use Rattle.star_model.specs.declared.values.RuleValue.TheVariants as is

-- for a goal of these quantifiers and pushed predicates
abbrev pub root_values : ℕ → ℕ → Option (ℕ × ℕ) → List RuleValue
root_values s j None = plain s ∷ is.Preds j ∷ []
root_values s j (Some p) = plain p.0 ∷ plain p.1 ∷ is.Preds j ∷ []
