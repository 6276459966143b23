-- A function value that reads the plans inside a plan.
use Rattle.std.specs.Prelude.{ℕ, List, Result}
use Rattle.std.specs.declared.alloc.Global.{Global}
use denote.Ref.{Bor, MutBor}
use Rattle.star_model.specs.declared.rules.PlanExpr.{PlanExpr}
use Rattle.spelling.specs.Lexemes.{Lexeme}
use Rattle.star_model.specs.WellFormedRules.{Scope}
use Rattle.rule_grammar.specs.PlanReading.{plan_at}
use Rattle.spelling.specs.declared.unread.Unread.{Unread}
use Rattle.spelling.specs.Answers.{Answers}

-- it may be called, and reads where so many plans and values may be open inside one another
pub record NestsPlans (depth : ℕ) (pre : Global → Bor Scope → MutBor (List Lexeme) → ℕ → Type 0)
    (post : Global → Bor Scope → MutBor (List Lexeme) → ℕ → Result PlanExpr Unread → MutBor (List Lexeme) → Type 0) : Type 0 where
  pub callable : (alloc : Global) (scope : Bor Scope) (old : MutBor (List Lexeme)) → pre alloc scope old depth
  pub reads : (alloc : Global) (scope : Bor Scope) (old new : MutBor (List Lexeme)) (r : Result PlanExpr Unread) → post alloc scope old depth r new
      → Answers (plan_at scope.now depth old.now) r new.now
