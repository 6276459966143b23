-- Which words spell a formula.
use Rattle.std.specs.Prelude.{ℕ, List, [], ◌∷◌, ◌++◌}
use Rattle.star_model.specs.declared.formula.Formula.{Formula}
use Rattle.star_model.specs.declared.formula.Formula.TheVariants as f
use Rattle.star_model.specs.FormulaCases.{Add, Sub, Mul, Div, Min, Max, If}
use Rattle.star_model.specs.declared.formula.Test.{Test}
use Rattle.star_model.specs.declared.formula.Var.{Var}
use Rattle.cost_formula.specs.declared.formula_word.FormulaWord.{FormulaWord}
use Rattle.cost_formula.specs.declared.formula_word.FormulaWord.TheVariants as w

-- the four rules of the grammar
pub data Rank : Type 0 where
  Factor : Rank
  Term : Rank
  Sum : Rank
  Whole : Rank

-- by its rule of this rank, the words spell the formula
pub data Spells : Rank → List FormulaWord → Formula → Type 0 where
  number : {n : ℕ} → Spells Factor (w.Number n ∷ []) (f.Number n)
  variable : {x : Var} → Spells Factor (w.Variable x ∷ []) (f.Variable x)
  brackets : {a : List FormulaWord} {x : Formula} → Spells Whole a x → Spells Factor (w.Open ∷ (a ++ w.Close ∷ [])) x
  minimum : {a b : List FormulaWord} {x y : Formula} → Spells Whole a x → Spells Whole b y → Spells Factor (w.Min ∷ (w.Open ∷ (a ++ (w.Comma ∷ (b ++ w.Close ∷ []))))) (Min x y)
  maximum : {a b : List FormulaWord} {x y : Formula} → Spells Whole a x → Spells Whole b y → Spells Factor (w.Max ∷ (w.Open ∷ (a ++ (w.Comma ∷ (b ++ w.Close ∷ []))))) (Max x y)
  factor : {a : List FormulaWord} {x : Formula} → Spells Factor a x → Spells Term a x
  product : {a b : List FormulaWord} {x y : Formula} → Spells Term a x → Spells Factor b y → Spells Term (a ++ w.Times ∷ b) (Mul x y)
  quotient : {a b : List FormulaWord} {x y : Formula} → Spells Term a x → Spells Factor b y → Spells Term (a ++ w.Over ∷ b) (Div x y)
  term : {a : List FormulaWord} {x : Formula} → Spells Term a x → Spells Sum a x
  sum : {a b : List FormulaWord} {x y : Formula} → Spells Sum a x → Spells Term b y → Spells Sum (a ++ w.Plus ∷ b) (Add x y)
  difference : {a b : List FormulaWord} {x y : Formula} → Spells Sum a x → Spells Term b y → Spells Sum (a ++ w.Minus ∷ b) (Sub x y)
  whole : {a : List FormulaWord} {x : Formula} → Spells Sum a x → Spells Whole a x
  conditional : {a b c d : List FormulaWord} {x y s t : Formula} (test : Test) → Spells Sum a x → Spells Sum b y → Spells Whole c s → Spells Whole d t
      → Spells Whole (w.If ∷ (a ++ (w.Test test ∷ (b ++ (w.Then ∷ (c ++ (w.Else ∷ d))))))) (If test x y s t)
