-- What a walk over the nodes of a formula comes to, case by case.
use Rattle.std.proofs.Common.{◌≡◌, ℕ, ◌+◌, ◌<◌, Bool, true, false, cond, if◌then◌else◌, List, [], ◌∷◌, ◌++◌, length, refl, ap, sym, ◌∙◌, arith}
use Rattle.std.specs.Prelude.{Result, Ok, Err, Some, None}
use Rattle.std.specs.List.{position_from}
use Rattle.std.specs.Option.{option_map}
use Rattle.std.proofs.lemmas.Iterator.Adapters.{position_from-zero}
use Rattle.star_model.specs.Monotone.{passes, nodes, offends, first_offending}
use Rattle.star_model.specs.MonotoneEquations.{nodes-Number, nodes-Variable, nodes-Add, nodes-Sub, nodes-Mul, nodes-Div, nodes-Min, nodes-Max, nodes-If}
use Rattle.star_model.specs.FormulaCases.{Add, Sub, Mul, Div, Min, Max, If, made-Add, made-Sub, made-Mul, made-Div, made-Min, made-Max, made-If}
use Rattle.star_model.proofs.Laws.{passes_where}
use Rattle.star_model.specs.declared.formula.Formula.{Formula}
use Rattle.star_model.specs.declared.formula.Formula.TheVariants as made
use Rattle.star_model.specs.declared.formula.Test.{Test}
use Rattle.star_model.specs.declared.formula.Var.{Var}
use Rattle.monotone_check.specs.declared.walk.MonoFault.{MonoFault}
use Rattle.monotone_check.specs.Walk.{walked, entered}

-- ---- one list behind another

-- the walk goes on over these nodes
abbrev pub go_on : Result ℕ MonoFault → List Formula → Result ℕ MonoFault
go_on (Ok count) fs = walked count fs
go_on (Err fault) fs = Err fault

walked-append : (n : ℕ) (a b : List Formula) → walked n (a ++ b) ≡ go_on (walked n a) b
unfolding walked
walked-append n [] b = refl
walked-append n (f ∷ a) b = step (offends f) (walked-append (n + 1) a b)
  where
    step : (o : Bool) → walked (n + 1) (a ++ b) ≡ go_on (walked (n + 1) a) b
        → (if o then Err (record { node = n + 1 }) else walked (n + 1) (a ++ b)) ≡ go_on (if o then Err (record { node = n + 1 }) else walked (n + 1) a) b
    step true e = refl
    step false e = e

walked-more : (n : ℕ) (f : Formula) (fs : List Formula) → walked n (f ∷ fs) ≡ go_on (entered n (offends f)) fs
unfolding walked
walked-more n f fs = step (offends f)
  where
    step : (o : Bool) → (if o then Err (record { node = n + 1 }) else walked (n + 1) fs) ≡ go_on (entered n o) fs
    step true = refl
    step false = refl

ended : (r : Result ℕ MonoFault) → go_on r [] ≡ r
unfolding walked
ended (Ok count) = refl
ended (Err fault) = refl

-- ---- the node at the top

-- the first of the nodes of a formula is the formula
first_node : (f : Formula) → (parts : List Formula) × (nodes f ≡ f ∷ parts)
unfolding nodes
first_node (made.Number n) = ([], refl)
first_node (made.Variable x) = ([], refl)
first_node (Add a b) = (nodes a ++ nodes b, refl)
first_node (Sub a b) = (nodes a ++ nodes b, refl)
first_node (Mul a b) = (nodes a ++ nodes b, refl)
first_node (Div a b) = (nodes a ++ nodes b, refl)
first_node (Min a b) = (nodes a ++ nodes b, refl)
first_node (Max a b) = (nodes a ++ nodes b, refl)
first_node (If t x y a b) = (nodes x ++ nodes y ++ nodes a ++ nodes b, refl)

pub stops : (n : ℕ) (f : Formula) (fault : MonoFault) → entered n (offends f) ≡ Err fault → walked n (nodes f) ≡ Err fault
stops n f fault h = let e = first_node f in ap (walked n) e.1 ∙ walked-more n f e.0 ∙ ap (λ r. go_on r e.0) h

pub some_node : (f : Formula) → 0 < length (nodes f)
some_node f = let e = first_node f in let l : length (nodes f) ≡ length (f ∷ e.0) = ap length e.1 in omega arith

-- ---- each kind of node

leaf : (n : ℕ) (f : Formula) → walked n (f ∷ []) ≡ entered n (offends f)
leaf n f = walked-more n f [] ∙ ended (entered n (offends f))

pub walked-Number : (n m : ℕ) → walked n (nodes (made.Number m)) ≡ entered n (offends (made.Number m))
walked-Number n m = ap (walked n) (nodes-Number m) ∙ leaf n (made.Number m)

pub walked-Variable : (n : ℕ) (x : Var) → walked n (nodes (made.Variable x)) ≡ entered n (offends (made.Variable x))
walked-Variable n x = ap (walked n) (nodes-Variable x) ∙ leaf n (made.Variable x)

go_on-append : (r : Result ℕ MonoFault) (a b : List Formula) → go_on r (a ++ b) ≡ go_on (go_on r a) b
go_on-append (Ok n) a b = walked-append n a b
go_on-append (Err fault) a b = refl

-- a node of two parts, as the code makes it
two_parts : (n : ℕ) (f case : Formula) (a b : List Formula) → f ≡ case → walked n (case ∷ (a ++ b)) ≡ go_on (go_on (entered n (offends f)) a) b
two_parts n f case a b is = walked-more n case (a ++ b) ∙ ap (λ x. go_on (entered n (offends x)) (a ++ b)) (sym is) ∙ go_on-append (entered n (offends f)) a b

pub walked-Add : (n : ℕ) (a b : Formula) → walked n (nodes (made.Add a b)) ≡ go_on (go_on (entered n (offends (made.Add a b))) (nodes a)) (nodes b)
walked-Add n a b = ap (walked n) (nodes-Add a b) ∙ two_parts n (made.Add a b) (Add a b) (nodes a) (nodes b) (made-Add a b)

pub walked-Sub : (n : ℕ) (a b : Formula) → walked n (nodes (made.Sub a b)) ≡ go_on (go_on (entered n (offends (made.Sub a b))) (nodes a)) (nodes b)
walked-Sub n a b = ap (walked n) (nodes-Sub a b) ∙ two_parts n (made.Sub a b) (Sub a b) (nodes a) (nodes b) (made-Sub a b)

pub walked-Mul : (n : ℕ) (a b : Formula) → walked n (nodes (made.Mul a b)) ≡ go_on (go_on (entered n (offends (made.Mul a b))) (nodes a)) (nodes b)
walked-Mul n a b = ap (walked n) (nodes-Mul a b) ∙ two_parts n (made.Mul a b) (Mul a b) (nodes a) (nodes b) (made-Mul a b)

pub walked-Div : (n : ℕ) (a b : Formula) → walked n (nodes (made.Div a b)) ≡ go_on (go_on (entered n (offends (made.Div a b))) (nodes a)) (nodes b)
walked-Div n a b = ap (walked n) (nodes-Div a b) ∙ two_parts n (made.Div a b) (Div a b) (nodes a) (nodes b) (made-Div a b)

pub walked-Min : (n : ℕ) (a b : Formula) → walked n (nodes (made.Min a b)) ≡ go_on (go_on (entered n (offends (made.Min a b))) (nodes a)) (nodes b)
walked-Min n a b = ap (walked n) (nodes-Min a b) ∙ two_parts n (made.Min a b) (Min a b) (nodes a) (nodes b) (made-Min a b)

pub walked-Max : (n : ℕ) (a b : Formula) → walked n (nodes (made.Max a b)) ≡ go_on (go_on (entered n (offends (made.Max a b))) (nodes a)) (nodes b)
walked-Max n a b = ap (walked n) (nodes-Max a b) ∙ two_parts n (made.Max a b) (Max a b) (nodes a) (nodes b) (made-Max a b)

pub walked-If : (n : ℕ) (t : Test) (x y a b : Formula)
    → walked n (nodes (made.If t x y a b)) ≡ go_on (go_on (go_on (go_on (entered n (offends (made.If t x y a b))) (nodes x)) (nodes y)) (nodes a)) (nodes b)
walked-If n t x y a b =
    let own = entered n (offends (made.If t x y a b)) in
    ap (walked n) (nodes-If t x y a b)
    ∙ two_parts n (made.If t x y a b) (If t x y a b) (nodes x ++ nodes y ++ nodes a) (nodes b) (made-If t x y a b)
    ∙ ap (λ r. go_on r (nodes b)) (go_on-append own (nodes x ++ nodes y) (nodes a) ∙ ap (λ r. go_on r (nodes a)) (go_on-append own (nodes x) (nodes y)))

pub ruleset walks = (stops, some_node, walked-Number, walked-Variable, walked-Add, walked-Sub, walked-Mul, walked-Div, walked-Min, walked-Max, walked-If)

-- ---- the whole formula

from_walk : (n : ℕ) (fs : List Formula) (fault : MonoFault) → walked n fs ≡ Err fault → option_map (λ k. k + 1) (position_from offends n fs) ≡ Some fault.node
unfolding walked
from_walk n [] fault h = cc
from_walk n (f ∷ fs) fault h = step (offends f) (from_walk (n + 1) fs fault) h
  where
    step : (o : Bool) → (walked (n + 1) fs ≡ Err fault → option_map (λ k. k + 1) (position_from offends (n + 1) fs) ≡ Some fault.node)
        → (if o then Err (record { node = n + 1 }) else walked (n + 1) fs) ≡ Err fault → option_map (λ k. k + 1) (cond o (Some n) (position_from offends (n + 1) fs)) ≡ Some fault.node
    step true later e = cc
    step false later e = later e

none_from_walk : (n m : ℕ) (fs : List Formula) → walked n fs ≡ Ok m → option_map (λ k. k + 1) (position_from offends n fs) ≡ None
unfolding walked
none_from_walk n m [] h = refl
none_from_walk n m (f ∷ fs) h = step (offends f) (none_from_walk (n + 1) m fs) h
  where
    step : (o : Bool) → (walked (n + 1) fs ≡ Ok m → option_map (λ k. k + 1) (position_from offends (n + 1) fs) ≡ None)
        → (if o then Err (record { node = n + 1 }) else walked (n + 1) fs) ≡ Ok m → option_map (λ k. k + 1) (cond o (Some n) (position_from offends (n + 1) fs)) ≡ None
    step true later e = cc
    step false later e = later e

pub first_where : (f : Formula) (fault : MonoFault) → walked 0 (nodes f) ≡ Err fault → first_offending f ≡ Some fault.node
first_where f fault h = ap (option_map (λ k. k + 1)) (position_from-zero offends (nodes f)) ∙ from_walk 0 (nodes f) fault h

pub passes_from : (f : Formula) (m : ℕ) → walked 0 (nodes f) ≡ Ok m → passes f ≡ true
passes_from f m h = (passes_where f).1 (ap (option_map (λ k. k + 1)) (position_from-zero offends (nodes f)) ∙ none_from_walk 0 m (nodes f) h)

pub fails_from : (f : Formula) (fault : MonoFault) → walked 0 (nodes f) ≡ Err fault → passes f ≡ true → ⊥
fails_from f fault h p = let e = first_where f fault h in let n = (passes_where f).0 p in cc

pub ruleset checks = (first_where, passes_from, fails_from)
