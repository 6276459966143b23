-- Written by tools/cases.py.
-- What the definitions of Monotone are of the values that code makes, for proofs about code.
use Rattle.std.specs.Prelude.{◌≡◌, refl, ℕ, []}
use denote.Hole.Carrier.{hidden}
use Rattle.star_model.specs.declared.formula.Formula.TheBlock.{hidden-the_row-Formula-0}
use Rattle.star_model.specs.declared.formula.Formula.TheVariants as made
use Rattle.std.specs.Prelude.{true, false, not, ◌&&◌, ◌∷◌, ◌++◌}
use Rattle.star_model.specs.FormulaCases.{Number, Variable, Add, Sub, Mul, Div, Min, Max, If}
use Rattle.star_model.specs.declared.formula.Formula.{Formula}
use Rattle.star_model.specs.declared.formula.Var.{Var}
use Rattle.star_model.specs.Monotone.{is_input_cost, is_free, passes, nodes, offends}
use Rattle.star_model.specs.declared.formula.Test.{Test}

pub is_free-Number : (n : ℕ) → is_free (made.Number n) ≡ true
unfolding is_free
is_free-Number n = refl

pub is_free-Variable : (x : Var) → is_free (made.Variable x) ≡ (not (is_input_cost x))
unfolding is_free
is_free-Variable x = refl

pub is_free-Add : (a : Formula) (b : Formula) → is_free (made.Add a b) ≡ (is_free a && is_free b)
unfolding is_free hidden-the_row-Formula-0 hidden
is_free-Add a b = refl

pub is_free-Sub : (a : Formula) (b : Formula) → is_free (made.Sub a b) ≡ (is_free a && is_free b)
unfolding is_free hidden-the_row-Formula-0 hidden
is_free-Sub a b = refl

pub is_free-Mul : (a : Formula) (b : Formula) → is_free (made.Mul a b) ≡ (is_free a && is_free b)
unfolding is_free hidden-the_row-Formula-0 hidden
is_free-Mul a b = refl

pub is_free-Div : (a : Formula) (b : Formula) → is_free (made.Div a b) ≡ (is_free a && is_free b)
unfolding is_free hidden-the_row-Formula-0 hidden
is_free-Div a b = refl

pub is_free-Min : (a : Formula) (b : Formula) → is_free (made.Min a b) ≡ (is_free a && is_free b)
unfolding is_free hidden-the_row-Formula-0 hidden
is_free-Min a b = refl

pub is_free-Max : (a : Formula) (b : Formula) → is_free (made.Max a b) ≡ (is_free a && is_free b)
unfolding is_free hidden-the_row-Formula-0 hidden
is_free-Max a b = refl

pub is_free-If : (t : Test) (x : Formula) (y : Formula) (a : Formula) (b : Formula) → is_free (made.If t x y a b) ≡ (is_free x && is_free y && is_free a && is_free b)
unfolding is_free hidden-the_row-Formula-0 hidden
is_free-If t x y a b = refl

pub passes-Number : (n : ℕ) → passes (made.Number n) ≡ true
unfolding passes
passes-Number n = refl

pub passes-Variable : (x : Var) → passes (made.Variable x) ≡ true
unfolding passes
passes-Variable x = refl

pub passes-Add : (a : Formula) (b : Formula) → passes (made.Add a b) ≡ (passes a && passes b)
unfolding passes hidden-the_row-Formula-0 hidden
passes-Add a b = refl

pub passes-Sub : (a : Formula) (b : Formula) → passes (made.Sub a b) ≡ (passes a && is_free b)
unfolding passes hidden-the_row-Formula-0 hidden
passes-Sub a b = refl

pub passes-Mul : (a : Formula) (b : Formula) → passes (made.Mul a b) ≡ (passes a && passes b)
unfolding passes hidden-the_row-Formula-0 hidden
passes-Mul a b = refl

pub passes-Div : (a : Formula) (b : Formula) → passes (made.Div a b) ≡ (passes a && is_free b)
unfolding passes hidden-the_row-Formula-0 hidden
passes-Div a b = refl

pub passes-Min : (a : Formula) (b : Formula) → passes (made.Min a b) ≡ (passes a && passes b)
unfolding passes hidden-the_row-Formula-0 hidden
passes-Min a b = refl

pub passes-Max : (a : Formula) (b : Formula) → passes (made.Max a b) ≡ (passes a && passes b)
unfolding passes hidden-the_row-Formula-0 hidden
passes-Max a b = refl

pub passes-If : (t : Test) (x : Formula) (y : Formula) (a : Formula) (b : Formula) → passes (made.If t x y a b) ≡ (is_free x && is_free y && passes a && passes b)
unfolding passes hidden-the_row-Formula-0 hidden
passes-If t x y a b = refl

pub nodes-Number : (n : ℕ) → nodes (made.Number n) ≡ (Number n ∷ [])
unfolding nodes
nodes-Number n = refl

pub nodes-Variable : (x : Var) → nodes (made.Variable x) ≡ (Variable x ∷ [])
unfolding nodes
nodes-Variable x = refl

pub nodes-Add : (a : Formula) (b : Formula) → nodes (made.Add a b) ≡ (Add a b ∷ (nodes a ++ nodes b))
unfolding nodes hidden-the_row-Formula-0 hidden
nodes-Add a b = refl

pub nodes-Sub : (a : Formula) (b : Formula) → nodes (made.Sub a b) ≡ (Sub a b ∷ (nodes a ++ nodes b))
unfolding nodes hidden-the_row-Formula-0 hidden
nodes-Sub a b = refl

pub nodes-Mul : (a : Formula) (b : Formula) → nodes (made.Mul a b) ≡ (Mul a b ∷ (nodes a ++ nodes b))
unfolding nodes hidden-the_row-Formula-0 hidden
nodes-Mul a b = refl

pub nodes-Div : (a : Formula) (b : Formula) → nodes (made.Div a b) ≡ (Div a b ∷ (nodes a ++ nodes b))
unfolding nodes hidden-the_row-Formula-0 hidden
nodes-Div a b = refl

pub nodes-Min : (a : Formula) (b : Formula) → nodes (made.Min a b) ≡ (Min a b ∷ (nodes a ++ nodes b))
unfolding nodes hidden-the_row-Formula-0 hidden
nodes-Min a b = refl

pub nodes-Max : (a : Formula) (b : Formula) → nodes (made.Max a b) ≡ (Max a b ∷ (nodes a ++ nodes b))
unfolding nodes hidden-the_row-Formula-0 hidden
nodes-Max a b = refl

pub nodes-If : (t : Test) (x : Formula) (y : Formula) (a : Formula) (b : Formula) → nodes (made.If t x y a b) ≡ (If t x y a b ∷ (nodes x ++ nodes y ++ nodes a ++ nodes b))
unfolding nodes hidden-the_row-Formula-0 hidden
nodes-If t x y a b = refl

pub offends-Number : (p1 : ℕ) → offends (made.Number p1) ≡ false
unfolding offends
offends-Number p1 = refl

pub offends-Variable : (p1 : Var) → offends (made.Variable p1) ≡ false
unfolding offends
offends-Variable p1 = refl

pub offends-Add : (p1 : Formula) (p2 : Formula) → offends (made.Add p1 p2) ≡ false
unfolding offends hidden-the_row-Formula-0 hidden
offends-Add p1 p2 = refl

pub offends-Sub : (a : Formula) (b : Formula) → offends (made.Sub a b) ≡ (not (is_free b))
unfolding offends hidden-the_row-Formula-0 hidden
offends-Sub a b = refl

pub offends-Mul : (p1 : Formula) (p2 : Formula) → offends (made.Mul p1 p2) ≡ false
unfolding offends hidden-the_row-Formula-0 hidden
offends-Mul p1 p2 = refl

pub offends-Div : (a : Formula) (b : Formula) → offends (made.Div a b) ≡ (not (is_free b))
unfolding offends hidden-the_row-Formula-0 hidden
offends-Div a b = refl

pub offends-Min : (p1 : Formula) (p2 : Formula) → offends (made.Min p1 p2) ≡ false
unfolding offends hidden-the_row-Formula-0 hidden
offends-Min p1 p2 = refl

pub offends-Max : (p1 : Formula) (p2 : Formula) → offends (made.Max p1 p2) ≡ false
unfolding offends hidden-the_row-Formula-0 hidden
offends-Max p1 p2 = refl

pub offends-If : (t : Test) (x : Formula) (y : Formula) (a : Formula) (b : Formula) → offends (made.If t x y a b) ≡ (not (is_free x && is_free y))
unfolding offends hidden-the_row-Formula-0 hidden
offends-If t x y a b = refl

pub ruleset is_free_cases = (is_free-Number, is_free-Variable, is_free-Add, is_free-Sub, is_free-Mul, is_free-Div, is_free-Min, is_free-Max, is_free-If)

pub ruleset passes_cases = (passes-Number, passes-Variable, passes-Add, passes-Sub, passes-Mul, passes-Div, passes-Min, passes-Max, passes-If)

pub ruleset nodes_cases = (nodes-Number, nodes-Variable, nodes-Add, nodes-Sub, nodes-Mul, nodes-Div, nodes-Min, nodes-Max, nodes-If)

pub ruleset offends_cases = (offends-Number, offends-Variable, offends-Add, offends-Sub, offends-Mul, offends-Div, offends-Min, offends-Max, offends-If)
