-- What a turn of a loop over operands does.
use Rattle.std.proofs.Common.{◌≡◌, ℕ, zero, suc, ◌-◌, ◌<◌, List, Option, Some, None, refl, sym, ap, ◌∙◌, arith}
use Rattle.star_model.specs.declared.formula.Formula.{Formula}
use Rattle.cost_formula.specs.declared.formula_word.FormulaWord.{FormulaWord}
use Rattle.cost_formula.specs.declared.formula_word.Sign.{Sign}
use Rattle.cost_formula.specs.FormulaReading.{Reader, goes_on, turn, joined}

module _ (sign : List FormulaWord → Option Sign × List FormulaWord) (operand : Reader Formula) where
  one_turn : (n : ℕ) (x : Formula) (ws : List FormulaWord) → 0 < n → goes_on sign operand n x ws ≡ turn operand (goes_on sign operand (n - 1)) x (sign ws).0 (sign ws).1
  unfolding goes_on
  one_turn zero x ws h = absurd (omega arith)
  one_turn (suc n) x ws h =
      let e : suc n - 1 ≡ n = omega arith in
      ap (λ k. turn operand (goes_on sign operand k) x (sign ws).0 (sign ws).1) (sym e)

  -- nothing follows
  pub rests : (n : ℕ) (x : Formula) (ws : List FormulaWord) → sign ws ≡ (None, ws) → goes_on sign operand n x ws ≡ Some (x, ws)
  unfolding goes_on
  rests zero x ws none = refl
  rests (suc n) x ws none = ap (λ p. turn operand (goes_on sign operand n) x p.0 p.1) none

  pub more : (n : ℕ) (x y : Formula) (ws rest after : List FormulaWord) (s : Sign) → 0 < n → sign ws ≡ (Some s, rest) → operand rest ≡ Some (y, after) → goes_on sign operand n x ws ≡ goes_on sign operand (n - 1) (joined s x y) after
  more n x y ws rest after s h some good =
      one_turn n x ws h ∙ ap (λ p. turn operand (goes_on sign operand (n - 1)) x p.0 p.1) some ∙ rw good refl
