-- Written by tools/cases.py.
-- What the definitions of Formulas are of the values that code makes, for proofs about code.
use Rattle.std.specs.Prelude.{◌≡◌, refl, ℕ}
use denote.Hole.Carrier.{hidden}
use Rattle.star_model.specs.declared.formula.Formula.TheBlock.{hidden-the_row-Formula-0}
use Rattle.star_model.specs.declared.formula.Formula.TheVariants as made
use Rattle.std.specs.Prelude.{min, max, if◌then◌else◌}
use Rattle.star_model.specs.Numbers.{cut, cut_sum, cut_difference, cut_product, cut_quotient}
use Rattle.star_model.specs.declared.formula.Formula.{Formula}
use Rattle.star_model.specs.declared.formula.Vars.{Vars}
use Rattle.star_model.specs.declared.formula.Test.{Test}
use Rattle.star_model.specs.declared.formula.Var.{Var}
use Rattle.star_model.specs.Formulas.{entry, compares, value}

pub value-Number : (n : ℕ) (v : Vars) → value (made.Number n) v ≡ (cut n)
unfolding value
value-Number n v = refl

pub value-Variable : (x : Var) (v : Vars) → value (made.Variable x) v ≡ (entry x v)
unfolding value
value-Variable x v = refl

pub value-Add : (a : Formula) (b : Formula) (v : Vars) → value (made.Add a b) v ≡ (cut_sum (value a v) (value b v))
unfolding value hidden-the_row-Formula-0 hidden
value-Add a b v = refl

pub value-Sub : (a : Formula) (b : Formula) (v : Vars) → value (made.Sub a b) v ≡ (cut_difference (value a v) (value b v))
unfolding value hidden-the_row-Formula-0 hidden
value-Sub a b v = refl

pub value-Mul : (a : Formula) (b : Formula) (v : Vars) → value (made.Mul a b) v ≡ (cut_product (value a v) (value b v))
unfolding value hidden-the_row-Formula-0 hidden
value-Mul a b v = refl

pub value-Div : (a : Formula) (b : Formula) (v : Vars) → value (made.Div a b) v ≡ (cut_quotient (value a v) (value b v))
unfolding value hidden-the_row-Formula-0 hidden
value-Div a b v = refl

pub value-Min : (a : Formula) (b : Formula) (v : Vars) → value (made.Min a b) v ≡ (min (value a v) (value b v))
unfolding value hidden-the_row-Formula-0 hidden
value-Min a b v = refl

pub value-Max : (a : Formula) (b : Formula) (v : Vars) → value (made.Max a b) v ≡ (max (value a v) (value b v))
unfolding value hidden-the_row-Formula-0 hidden
value-Max a b v = refl

pub value-If : (t : Test) (x : Formula) (y : Formula) (a : Formula) (b : Formula) (v : Vars) → value (made.If t x y a b) v ≡ (if compares t (value x v) (value y v) then value a v else value b v)
unfolding value hidden-the_row-Formula-0 hidden
value-If t x y a b v = refl

pub ruleset value_cases = (value-Number, value-Variable, value-Add, value-Sub, value-Mul, value-Div, value-Min, value-Max, value-If)
