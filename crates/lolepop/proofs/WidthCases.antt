-- What `lacks_width` is of the values that code makes, for proofs about code.
use Rattle.std.specs.Prelude.{◌≡◌, ℕ, true, not, ◌&&◌}
use Rattle.std.proofs.Common.{refl}
use denote.Hole.Carrier.{hidden}
use Rattle.star_model.specs.declared.formula.Formula.TheBlock.{hidden-the_row-Formula-0}
use Rattle.star_model.specs.declared.formula.Formula.TheVariants as made
use Rattle.star_model.specs.declared.formula.Formula.{Formula}
use Rattle.star_model.specs.declared.formula.Test.{Test}
use Rattle.star_model.specs.declared.formula.Var.{Var}
use Rattle.lolepop.specs.Widths.{is_width, lacks_width}

pub lacks_width-Number : (n : ℕ) → lacks_width (made.Number n) ≡ true
unfolding lacks_width
lacks_width-Number n = refl

pub lacks_width-Variable : (x : Var) → lacks_width (made.Variable x) ≡ (not (is_width x))
unfolding lacks_width
lacks_width-Variable x = refl

pub lacks_width-Add : (a b : Formula) → lacks_width (made.Add a b) ≡ (lacks_width a && lacks_width b)
unfolding lacks_width hidden-the_row-Formula-0 hidden
lacks_width-Add a b = refl

pub lacks_width-Sub : (a b : Formula) → lacks_width (made.Sub a b) ≡ (lacks_width a && lacks_width b)
unfolding lacks_width hidden-the_row-Formula-0 hidden
lacks_width-Sub a b = refl

pub lacks_width-Mul : (a b : Formula) → lacks_width (made.Mul a b) ≡ (lacks_width a && lacks_width b)
unfolding lacks_width hidden-the_row-Formula-0 hidden
lacks_width-Mul a b = refl

pub lacks_width-Div : (a b : Formula) → lacks_width (made.Div a b) ≡ (lacks_width a && lacks_width b)
unfolding lacks_width hidden-the_row-Formula-0 hidden
lacks_width-Div a b = refl

pub lacks_width-Min : (a b : Formula) → lacks_width (made.Min a b) ≡ (lacks_width a && lacks_width b)
unfolding lacks_width hidden-the_row-Formula-0 hidden
lacks_width-Min a b = refl

pub lacks_width-Max : (a b : Formula) → lacks_width (made.Max a b) ≡ (lacks_width a && lacks_width b)
unfolding lacks_width hidden-the_row-Formula-0 hidden
lacks_width-Max a b = refl

pub lacks_width-If : (t : Test) (x y a b : Formula) → lacks_width (made.If t x y a b) ≡ (lacks_width x && lacks_width y && lacks_width a && lacks_width b)
unfolding lacks_width hidden-the_row-Formula-0 hidden
lacks_width-If t x y a b = refl

pub ruleset width_cases = (lacks_width-Number, lacks_width-Variable, lacks_width-Add, lacks_width-Sub, lacks_width-Mul, lacks_width-Div, lacks_width-Min, lacks_width-Max, lacks_width-If)
