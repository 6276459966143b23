-- How the conditions of the rule language are read from the front of a list of lexemes.
use Rattle.std.specs.Prelude.{ℕ, zero, suc, List, [], ◌∷◌, None, codes}
use Rattle.star_model.specs.declared.rules.Condition.{Condition}
use Rattle.star_model.specs.declared.rules.Condition.TheVariants as plain
use Rattle.star_model.specs.ConditionCases as condition
use Rattle.star_model.specs.WellFormedRules.{Scope}
use Rattle.star_model.specs.declared.rules.ValueExpr.{ValueExpr}
use Rattle.rule_grammar.specs.declared.words.ConditionHead.{ConditionHead}
use Rattle.rule_grammar.specs.declared.words.ConditionHead.TheVariants as head
use Rattle.rule_grammar.specs.declared.words.UnaryTest.{UnaryTest}
use Rattle.rule_grammar.specs.declared.words.UnaryTest.TheVariants as unary
use Rattle.rule_grammar.specs.declared.words.BinaryTest.{BinaryTest}
use Rattle.rule_grammar.specs.declared.words.BinaryTest.TheVariants as binary
use Rattle.rule_grammar.specs.declared.words.Junction.{Junction}
use Rattle.rule_grammar.specs.declared.words.Junction.TheVariants as junction
use Rattle.spelling.specs.Names.{found_in}
use Rattle.spelling.specs.Reading.{Reader, ◌>>=◌, pure, a_word}
use Rattle.rule_grammar.specs.ValueReading.{one_at, two_at, value_at}

abbrev pub condition_heads : List (List ℕ × ConditionHead)
condition_heads =
    (codes "empty", head.Unary unary.Empty) ∷ (codes "single", head.Unary unary.Single)
    ∷ (codes "same", head.Binary binary.Same) ∷ (codes "within", head.Binary binary.Within) ∷ (codes "begins", head.Binary binary.Begins)
    ∷ (codes "not", head.Not) ∷ (codes "and", head.Junction junction.And) ∷ (codes "or", head.Junction junction.Or) ∷ []

unfoldable pub condition_head : List ℕ → ConditionHead
condition_head word = found_in head.Other condition_heads word

abbrev pub unary_of : UnaryTest → ValueExpr → Condition
unary_of unary.Empty v = plain.Empty v
unary_of unary.Single v = plain.Single v

abbrev pub binary_of : BinaryTest → ValueExpr → ValueExpr → Condition
binary_of binary.Same v w = plain.Same v w
binary_of binary.Within v w = plain.Within v w
binary_of binary.Begins v w = plain.Begins v w

abbrev pub junction_of : Junction → Condition → Condition → Condition
junction_of junction.And c d = condition.And c d
junction_of junction.Or c d = condition.Or c d

module _ (scope : Scope) where
  -- what stands behind the word, where so many values may be open inside one another, and `inner` reads a condition inside this one
  abbrev pub conditional : ℕ → Reader Condition → ConditionHead → Reader Condition
  conditional n inner (head.Unary f) = one_at (value_at scope n) >>= λ v. pure (unary_of f v)
  conditional n inner (head.Binary f) = two_at (value_at scope n) >>= λ p. pure (binary_of f p.0 p.1)
  conditional n inner head.Not = one_at inner >>= λ c. pure (condition.Not c)
  conditional n inner (head.Junction f) = two_at inner >>= λ p. pure (junction_of f p.0 p.1)
  conditional n inner head.Other = λ _. None

  unfoldable pub condition_by : ℕ → Reader Condition → Reader Condition
  condition_by n inner = a_word >>= λ word. conditional n inner (condition_head word)

  -- The number bounds how many values and conditions may be open inside one another.
  unfoldable pub condition_at : ℕ → Reader Condition
  condition_at zero = λ _. None
  condition_at (suc n) = condition_by n (condition_at n)
