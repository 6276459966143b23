-- Formulas that name no width.
use Rattle.std.specs.Prelude.{Bool, true, false, not, ◌&&◌}
use Rattle.star_model.specs.declared.formula.Formula.TheVariants.{Number, Variable}
use Rattle.star_model.specs.FormulaCases.{Add, Sub, Mul, Div, Min, Max, If}
use Rattle.star_model.specs.declared.formula.Formula.{Formula}
use Rattle.star_model.specs.declared.formula.Vars.{Vars}
use Rattle.star_model.specs.declared.formula.Var.{Var}
use Rattle.star_model.specs.declared.formula.Var.TheVariants as var

abbrev pub is_width : Var → Bool
is_width var.Width1 = true
is_width var.Width2 = true
is_width var.Width = true
is_width _ = false

-- whether no width stands in the formula
unfoldable pub lacks_width : Formula → Bool
lacks_width (Number n) = true
lacks_width (Variable x) = not (is_width x)
lacks_width (Add a b) = lacks_width a && lacks_width b
lacks_width (Sub a b) = lacks_width a && lacks_width b
lacks_width (Mul a b) = lacks_width a && lacks_width b
lacks_width (Div a b) = lacks_width a && lacks_width b
lacks_width (Min a b) = lacks_width a && lacks_width b
lacks_width (Max a b) = lacks_width a && lacks_width b
lacks_width (If t x y a b) = lacks_width x && lacks_width y && lacks_width a && lacks_width b

-- the values, with 0 for each width
abbrev pub without_widths : Vars → Vars
without_widths v = record v { width1 = 0; width2 = 0; width = 0 }
