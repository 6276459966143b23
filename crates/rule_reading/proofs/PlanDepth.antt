-- One more plan inside.
use Rattle.std.proofs.Common.{◌≡◌, ℕ, zero, suc, ◌-◌, ◌<◌, None, List, ap, arith}
use Rattle.star_model.specs.WellFormedRules.{Scope}
use Rattle.spelling.specs.Lexemes.{Lexeme}
use Rattle.rule_grammar.specs.ValueReading.{value_at}
use Rattle.rule_grammar.specs.PlanReading.{plan_at, plan_by}

pub at_none : (scope : Scope) (n : ℕ) (lexemes : List Lexeme) → n ≡ 0 → plan_at scope n lexemes ≡ None
unfolding plan_at
at_none scope n lexemes h = ap (λ k. plan_at scope k lexemes) h

pub at_some : (scope : Scope) (n : ℕ) (lexemes : List Lexeme) → 0 < n → plan_at scope n lexemes ≡ plan_by (value_at scope (n - 1)) (plan_at scope (n - 1)) scope.version lexemes
unfolding plan_at
at_some scope zero lexemes h = absurd (omega arith)
at_some scope (suc n) lexemes h = let e : n ≡ suc n - 1 = omega arith in ap (λ k. plan_by (value_at scope k) (plan_at scope k) scope.version lexemes) e
