-- What a turn of a loop over operands does.
use Rattle.std.proofs.Common.{◌≡◌, ℕ, zero, suc, ◌+◌, ◌-◌, ◌<◌, List, Option, Some, None, option_and_then, sym, ap, ◌∙◌, arith}
use Rattle.std.specs.Prelude.{Err}
use Rattle.star_model.specs.declared.formula.Formula.{Formula}
use Rattle.cost_formula.specs.declared.formula_word.FormulaWord.{FormulaWord}
use Rattle.cost_formula.specs.declared.formula_word.Sign.{Sign}
use Rattle.cost_formula.specs.FormulaReading.{Reader, goes_on, turn, joined}
use Rattle.cost_formula.specs.declared.cursor.Stop.{Stop}
use Rattle.cost_formula.specs.declared.cursor.Stop.TheVariants.{Memory, Unspelled}
use Rattle.cost_formula.specs.Reading.{Reads, with_operand}

module _ (sign : List FormulaWord → Option Sign × List FormulaWord) (operand : Reader Formula) where
  one_turn : (n : ℕ) (x : Formula) (ws : List FormulaWord) → 0 < n → goes_on sign operand n x ws ≡ turn operand (goes_on sign operand (n - 1)) x (sign ws).0 (sign ws).1
  unfolding goes_on
  one_turn zero x ws h = absurd (omega arith)
  one_turn (suc n) x ws h =
      let e : suc n - 1 ≡ n = omega arith in
      ap (λ k. turn operand (goes_on sign operand k) x (sign ws).0 (sign ws).1) (sym e)

  -- no sign follows
  pub stops : (e t : ℕ) (x : Formula) (ws rest : List FormulaWord) → t < e → sign ws ≡ (None, rest) → goes_on sign operand (e - t) x ws ≡ Some (x, rest)
  stops e t x ws rest h none = one_turn (e - t) x ws (omega arith) ∙ ap (λ p. turn operand (goes_on sign operand (e - t - 1)) x p.0 p.1) none

  with_found : (more : Formula → Reader Formula) (s : Sign) (x : Formula) (found : Option (Formula × List FormulaWord)) (joint : Option (Formula × List FormulaWord))
      → option_and_then (λ p. Some (joined s x p.0, p.1)) found ≡ joint → option_and_then (λ p. more (joined s x p.0) p.1) found ≡ option_and_then (λ p. more p.0 p.1) joint
  with_found more s x None joint is = ap (option_and_then (λ p. more p.0 p.1)) is
  with_found more s x (Some p) joint is = ap (option_and_then (λ p. more p.0 p.1)) is

  -- a sign follows: what is read of it and of its operand goes on
  goes_by : (e t : ℕ) (x : Formula) (ws rest : List FormulaWord) (s : Sign) (joint : Option (Formula × List FormulaWord)) → t < e → sign ws ≡ (Some s, rest)
      → with_operand operand x s rest ≡ joint → goes_on sign operand (e - t) x ws ≡ option_and_then (λ p. goes_on sign operand (e - (t + 1)) p.0 p.1) joint
  goes_by e t x ws rest s joint h some is =
      let k : e - t - 1 ≡ e - (t + 1) = omega arith in
      one_turn (e - t) x ws (omega arith) ∙ ap (λ p. turn operand (goes_on sign operand (e - t - 1)) x p.0 p.1) some
      ∙ with_found (goes_on sign operand (e - t - 1)) s x (operand rest) joint is ∙ ap (λ n. option_and_then (λ p. goes_on sign operand n p.0 p.1) joint) k

  pub goes : (e t : ℕ) (x z : Formula) (ws rest after : List FormulaWord) (s : Sign) → t < e → sign ws ≡ (Some s, rest)
      → with_operand operand x s rest ≡ Some (z, after) → goes_on sign operand (e - t) x ws ≡ goes_on sign operand (e - (t + 1)) z after
  goes e t x z ws rest after s h some good = goes_by e t x ws rest s (Some (z, after)) h some good

  -- the loop stops at an error
  pub fails : (stop : Stop) (e t : ℕ) (x : Formula) (ws rest after : List FormulaWord) (s : Sign) (all : Option (Formula × List FormulaWord)) → t < e → sign ws ≡ (Some s, rest)
      → Reads {A = Formula} (with_operand operand x s rest) (Err stop) after → all ≡ goes_on sign operand (e - t) x ws → Reads {A = Formula} all (Err stop) after
  fails Memory e t x ws rest after s all h some bad so_far = tt
  fails Unspelled e t x ws rest after s all h some bad so_far = so_far ∙ goes_by e t x ws rest s None h some bad

  pub ends : (e t : ℕ) (x : Formula) (ws : List FormulaWord) → e - t ≡ 0 → goes_on sign operand (e - t) x ws ≡ Some (x, ws)
  unfolding goes_on
  ends e t x ws h = ap (λ k. goes_on sign operand k x ws) h
