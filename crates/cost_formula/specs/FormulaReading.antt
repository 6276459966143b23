-- Reading a formula from the front of a list of words.
use Rattle.std.specs.Prelude.{ℕ, zero, suc, Bool, true, false, if◌then◌else◌, List, [], ◌∷◌, length, Option, Some, None, option_and_then}
use Rattle.star_model.specs.declared.formula.Formula.{Formula}
use Rattle.star_model.specs.declared.formula.Formula.TheVariants as f
use Rattle.star_model.specs.FormulaCases.{Add, Sub, Mul, Div, Min, Max, If}
use Rattle.star_model.specs.declared.formula.Test.{Test}
use Rattle.cost_formula.specs.declared.formula_word.FormulaWord.{FormulaWord}
use Rattle.cost_formula.specs.declared.formula_word.FormulaWord.TheVariants as w
use Rattle.cost_formula.specs.declared.formula_word.Sign.{Sign}
use Rattle.cost_formula.specs.declared.formula_word.Sign.TheVariants as s

abbrev pub joined : Sign → Formula → Formula → Formula
joined s.Plus x y = Add x y
joined s.Minus x y = Sub x y
joined s.Times x y = Mul x y
joined s.Over x y = Div x y

-- what stands after a word of this kind
abbrev pub after_open : List FormulaWord → Option (Unit {0} × List FormulaWord)
after_open (w.Open ∷ ws) = Some (tt, ws)
after_open _ = None

abbrev pub after_close : List FormulaWord → Option (Unit {0} × List FormulaWord)
after_close (w.Close ∷ ws) = Some (tt, ws)
after_close _ = None

abbrev pub after_comma : List FormulaWord → Option (Unit {0} × List FormulaWord)
after_comma (w.Comma ∷ ws) = Some (tt, ws)
after_comma _ = None

abbrev pub after_then : List FormulaWord → Option (Unit {0} × List FormulaWord)
after_then (w.Then ∷ ws) = Some (tt, ws)
after_then _ = None

abbrev pub after_else : List FormulaWord → Option (Unit {0} × List FormulaWord)
after_else (w.Else ∷ ws) = Some (tt, ws)
after_else _ = None

abbrev pub test_at : List FormulaWord → Option (Test × List FormulaWord)
test_at (w.Test test ∷ ws) = Some (test, ws)
test_at _ = None

abbrev pub sum_sign_of : List FormulaWord → Option Sign × List FormulaWord
sum_sign_of (w.Plus ∷ ws) = (Some s.Plus, ws)
sum_sign_of (w.Minus ∷ ws) = (Some s.Minus, ws)
sum_sign_of ws = (None, ws)

abbrev pub product_sign_of : List FormulaWord → Option Sign × List FormulaWord
product_sign_of (w.Times ∷ ws) = (Some s.Times, ws)
product_sign_of (w.Over ∷ ws) = (Some s.Over, ws)
product_sign_of ws = (None, ws)

abbrev pub next_of : List FormulaWord → Option FormulaWord × List FormulaWord
next_of [] = (None, [])
next_of (x ∷ ws) = (Some x, ws)

abbrev pub is_conditional : List FormulaWord → Bool × List FormulaWord
is_conditional (w.If ∷ ws) = (true, ws)
is_conditional ws = (false, ws)

-- a reader of the front of a list
abbrev pub Reader : Type 0 → Type 0
Reader A = List FormulaWord → Option (A × List FormulaWord)

infixl 10 ◌>>=◌
abbrev pub ◌>>=◌ : {A B : Type 0} → Reader A → (A → Reader B) → Reader B
p >>= q = λ ws. option_and_then (λ x. q x.0 x.1) (p ws)

infixl 10 ◌>>◌
abbrev pub ◌>>◌ : {A B : Type 0} → Reader A → Reader B → Reader B
p >> q = p >>= λ _. q

abbrev pub pure : {A : Type 0} → A → Reader A
pure x = λ ws. Some (x, ws)

-- one more operand, where a sign was found
abbrev pub turn : Reader Formula → (Formula → Reader Formula) → Formula → Option Sign → Reader Formula
turn operand more x None = pure x
turn operand more x (Some sign) = operand >>= λ y. more (joined sign x y)

-- goes on with the operands after the first, for at most so many turns
unfoldable pub goes_on : (List FormulaWord → Option Sign × List FormulaWord) → Reader Formula → ℕ → Formula → Reader Formula
goes_on sign operand zero x = pure x
goes_on sign operand (suc n) x = λ ws. turn operand (goes_on sign operand n) x (sign ws).0 (sign ws).1

abbrev pub series : (List FormulaWord → Option Sign × List FormulaWord) → Reader Formula → Reader Formula
series sign operand = operand >>= λ x ws. goes_on sign operand (length ws) x ws

-- `inner` reads a formula inside this one
module _ (inner : Reader Formula) where
  unfoldable pub pair_at : Reader (Formula × Formula)
  pair_at = do
    after_open
    x ← inner
    after_comma
    y ← inner
    after_close
    pure (x, y)

  unfoldable pub bracketed_at : Reader Formula
  bracketed_at = do
    x ← inner
    after_close
    pure x

  abbrev pub factor_by : Option FormulaWord → Reader Formula
  factor_by (Some (w.Number n)) = pure (f.Number n)
  factor_by (Some (w.Variable x)) = pure (f.Variable x)
  factor_by (Some w.Open) = bracketed_at
  factor_by (Some w.Min) = pair_at >>= λ p. pure (Min p.0 p.1)
  factor_by (Some w.Max) = pair_at >>= λ p. pure (Max p.0 p.1)
  factor_by _ = λ _. None

  unfoldable pub factor_at : Reader Formula
  factor_at ws = factor_by (next_of ws).0 (next_of ws).1

  unfoldable pub term_at : Reader Formula
  term_at = series product_sign_of factor_at

  unfoldable pub sum_at : Reader Formula
  sum_at = series sum_sign_of term_at

  unfoldable pub comparison_at : Reader (Formula × Test × Formula)
  comparison_at = do
    x ← sum_at
    t ← test_at
    y ← sum_at
    pure (x, t, y)

  unfoldable pub branches_at : Reader (Formula × Formula)
  branches_at = do
    after_then
    x ← inner
    after_else
    y ← inner
    pure (x, y)

  unfoldable pub conditional_at : Reader Formula
  conditional_at = do
    c ← comparison_at
    b ← branches_at
    pure (If c.1 c.0 c.2 b.0 b.1)

  unfoldable pub whole_by : Reader Formula
  whole_by ws = if (is_conditional ws).0 then conditional_at (is_conditional ws).1 else sum_at (is_conditional ws).1

-- The number bounds how many formulas may be open inside one another.
unfoldable pub whole_at : ℕ → Reader Formula
whole_at zero = λ _. None
whole_at (suc n) = whole_by (whole_at n)
