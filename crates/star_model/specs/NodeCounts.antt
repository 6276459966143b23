-- How many nodes a formula has that code makes, for proofs about code.
use Rattle.std.specs.Prelude.{◌≡◌, ℕ, ◌+◌, List, ◌∷◌, ◌++◌, length}
use Rattle.std.proofs.Common.{ap, ◌∙◌, arith, length-append}
use Rattle.star_model.specs.FormulaCases.{Add, Sub, Mul, Div, Min, Max, If}
use Rattle.star_model.specs.Monotone.{nodes}
use Rattle.star_model.specs.MonotoneEquations.{nodes-Number, nodes-Variable, nodes-Add, nodes-Sub, nodes-Mul, nodes-Div, nodes-Min, nodes-Max, nodes-If}
use Rattle.star_model.specs.declared.formula.Formula.{Formula}
use Rattle.star_model.specs.declared.formula.Formula.TheVariants as made
use Rattle.star_model.specs.declared.formula.Test.{Test}
use Rattle.star_model.specs.declared.formula.Var.{Var}

pub length-Number : (m : ℕ) → length (nodes (made.Number m)) ≡ 1
length-Number m = ap length (nodes-Number m)

pub length-Variable : (x : Var) → length (nodes (made.Variable x)) ≡ 1
length-Variable x = ap length (nodes-Variable x)

two_parts : (f : Formula) (a b : List Formula) → length (f ∷ (a ++ b)) ≡ 1 + length a + length b
two_parts f a b = omega (arith, length-append a b)

pub length-Add : (a b : Formula) → length (nodes (made.Add a b)) ≡ 1 + length (nodes a) + length (nodes b)
length-Add a b = ap length (nodes-Add a b) ∙ two_parts (Add a b) (nodes a) (nodes b)

pub length-Sub : (a b : Formula) → length (nodes (made.Sub a b)) ≡ 1 + length (nodes a) + length (nodes b)
length-Sub a b = ap length (nodes-Sub a b) ∙ two_parts (Sub a b) (nodes a) (nodes b)

pub length-Mul : (a b : Formula) → length (nodes (made.Mul a b)) ≡ 1 + length (nodes a) + length (nodes b)
length-Mul a b = ap length (nodes-Mul a b) ∙ two_parts (Mul a b) (nodes a) (nodes b)

pub length-Div : (a b : Formula) → length (nodes (made.Div a b)) ≡ 1 + length (nodes a) + length (nodes b)
length-Div a b = ap length (nodes-Div a b) ∙ two_parts (Div a b) (nodes a) (nodes b)

pub length-Min : (a b : Formula) → length (nodes (made.Min a b)) ≡ 1 + length (nodes a) + length (nodes b)
length-Min a b = ap length (nodes-Min a b) ∙ two_parts (Min a b) (nodes a) (nodes b)

pub length-Max : (a b : Formula) → length (nodes (made.Max a b)) ≡ 1 + length (nodes a) + length (nodes b)
length-Max a b = ap length (nodes-Max a b) ∙ two_parts (Max a b) (nodes a) (nodes b)

four_parts : (f : Formula) (a b c d : List Formula) → length (f ∷ (a ++ b ++ c ++ d)) ≡ 1 + length a + length b + length c + length d
four_parts f a b c d = omega (arith, length-append (a ++ b ++ c) d, length-append (a ++ b) c, length-append a b)

pub length-If : (t : Test) (x y a b : Formula) → length (nodes (made.If t x y a b)) ≡ 1 + length (nodes x) + length (nodes y) + length (nodes a) + length (nodes b)
length-If t x y a b = ap length (nodes-If t x y a b) ∙ four_parts (If t x y a b) (nodes x) (nodes y) (nodes a) (nodes b)

pub ruleset node_counts = (length-Number, length-Variable, length-Add, length-Sub, length-Mul, length-Div, length-Min, length-Max, length-If)
