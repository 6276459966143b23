-- One more formula inside.
use Rattle.std.proofs.Common.{◌≡◌, ℕ, zero, suc, ◌-◌, ◌<◌, None, List, ap, arith}
use Rattle.cost_formula.specs.declared.formula_word.FormulaWord.{FormulaWord}
use Rattle.cost_formula.specs.FormulaReading.{whole_at, whole_by}

pub at_none : (n : ℕ) (ws : List FormulaWord) → n ≡ 0 → whole_at n ws ≡ None
unfolding whole_at
at_none n ws h = ap (λ k. whole_at k ws) h

pub at_some : (n : ℕ) (ws : List FormulaWord) → 0 < n → whole_at n ws ≡ whole_by (whole_at (n - 1)) ws
unfolding whole_at
at_some zero ws h = absurd (omega arith)
at_some (suc n) ws h = let e : n ≡ suc n - 1 = omega arith in ap (λ k. whole_by (whole_at k) ws) e
