-- One more value or condition inside.
use Rattle.std.proofs.Common.{◌≡◌, ℕ, zero, suc, ◌-◌, ◌<◌, None, List, ap, arith}
use Rattle.star_model.specs.WellFormedRules.{Scope}
use Rattle.spelling.specs.Lexemes.{Lexeme}
use Rattle.rule_grammar.specs.ValueReading.{value_at, value_by}
use Rattle.rule_grammar.specs.ConditionReading.{condition_at, condition_by}

module _ (scope : Scope) where
  pub no_value : (n : ℕ) (ws : List Lexeme) → n ≡ 0 → value_at scope n ws ≡ None
  unfolding value_at
  no_value n ws h = ap (λ k. value_at scope k ws) h

  pub deeper_value : (n : ℕ) (ws : List Lexeme) → 0 < n → value_at scope n ws ≡ value_by scope (value_at scope (n - 1)) ws
  unfolding value_at
  deeper_value zero ws h = absurd (omega arith)
  deeper_value (suc n) ws h = let e : n ≡ suc n - 1 = omega arith in ap (λ k. value_by scope (value_at scope k) ws) e

  pub no_condition : (n : ℕ) (ws : List Lexeme) → n ≡ 0 → condition_at scope n ws ≡ None
  unfolding condition_at
  no_condition n ws h = ap (λ k. condition_at scope k ws) h

  pub deeper_condition : (n : ℕ) (ws : List Lexeme) → 0 < n → condition_at scope n ws ≡ condition_by scope (n - 1) (condition_at scope (n - 1)) ws
  unfolding condition_at
  deeper_condition zero ws h = absurd (omega arith)
  deeper_condition (suc n) ws h = let e : n ≡ suc n - 1 = omega arith in ap (λ k. condition_by scope k (condition_at scope k) ws) e
