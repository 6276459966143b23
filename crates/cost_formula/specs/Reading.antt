-- What functions that read words answer.
use Rattle.std.specs.Prelude.{◌≡◌, List, [], Option, Some, None, Result, Ok, Err}
use Rattle.star_model.specs.declared.formula.Formula.{Formula}
use Rattle.cost_formula.specs.declared.formula_word.FormulaWord.{FormulaWord}
use Rattle.cost_formula.specs.declared.formula_word.Sign.{Sign}
use Rattle.cost_formula.specs.FormulaReading.{Reader, ◌>>=◌, pure, joined}
use Rattle.cost_formula.specs.declared.cursor.Stop.{Stop}
use Rattle.cost_formula.specs.declared.cursor.Stop.TheVariants.{Memory, Unspelled}

-- what was read and what is left of the words, unless memory ran out
abbrev pub Reads : {A : Type 0} → Option (A × List FormulaWord) → Result A Stop → List FormulaWord → Type 0
Reads read (Ok x) rest = read ≡ Some (x, rest)
Reads read (Err Memory) rest = Unit {0}
Reads read (Err Unspelled) rest = read ≡ None

-- what was read where nothing is left, and none else
abbrev pub IsAllOf : Option (Formula × List FormulaWord) → Option Formula → Type 0
IsAllOf read (Some x) = read ≡ Some (x, [])
IsAllOf read None = (x : Formula) → read ≡ Some (x, []) → ⊥

-- reads the operand behind a sign, and joins it to what stands before
abbrev pub with_operand : Reader Formula → Formula → Sign → Reader Formula
with_operand operand left sign = operand >>= λ right. pure (joined sign left right)
