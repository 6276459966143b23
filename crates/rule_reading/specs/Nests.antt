-- Function values that read the values inside a value, and the conditions inside a condition.
use Rattle.std.specs.Prelude.{ℕ, List, Result}
use Rattle.std.specs.declared.alloc.Global.{Global}
use denote.Ref.{Bor, MutBor}
use Rattle.star_model.specs.declared.rules.ValueExpr.{ValueExpr}
use Rattle.star_model.specs.declared.rules.Condition.{Condition}
use Rattle.spelling.specs.Lexemes.{Lexeme}
use Rattle.star_model.specs.WellFormedRules.{Scope}
use Rattle.rule_grammar.specs.ValueReading.{value_at}
use Rattle.rule_grammar.specs.ConditionReading.{condition_at}
use Rattle.spelling.specs.declared.unread.Unread.{Unread}
use Rattle.spelling.specs.Answers.{Answers}

-- it may be called, and reads where so many values may be open inside one another
pub record NestsValues (depth : ℕ) (pre : Global → Bor Scope → MutBor (List Lexeme) → ℕ → Type 0)
    (post : Global → Bor Scope → MutBor (List Lexeme) → ℕ → Result ValueExpr Unread → MutBor (List Lexeme) → Type 0) : Type 0 where
  pub callable : (alloc : Global) (scope : Bor Scope) (old : MutBor (List Lexeme)) → pre alloc scope old depth
  pub reads : (alloc : Global) (scope : Bor Scope) (old new : MutBor (List Lexeme)) (r : Result ValueExpr Unread) → post alloc scope old depth r new → Answers (value_at scope.now depth old.now) r new.now

pub record NestsConditions (depth : ℕ) (pre : Global → Bor Scope → MutBor (List Lexeme) → ℕ → Type 0)
    (post : Global → Bor Scope → MutBor (List Lexeme) → ℕ → Result Condition Unread → MutBor (List Lexeme) → Type 0) : Type 0 where
  pub callable : (alloc : Global) (scope : Bor Scope) (old : MutBor (List Lexeme)) → pre alloc scope old depth
  pub reads : (alloc : Global) (scope : Bor Scope) (old new : MutBor (List Lexeme)) (r : Result Condition Unread) → post alloc scope old depth r new → Answers (condition_at scope.now depth old.now) r new.now
