-- A trace as the derivation that it stands for.
use Rattle.star_model.specs.declared.derivations.Deriv.{Deriv}
use Rattle.star_model.specs.declared.derivations.Deriv.TheVariants as made
use Rattle.star_model.specs.DerivCases as deriv
use Rattle.lolepop.specs.declared.trace.Trace.{Trace}
use Rattle.lolepop.specs.declared.trace.Trace.TheVariants as trace

-- the first of each child is where it lies
abbrev pub deriv_of : Trace → Deriv
deriv_of (trace.Glue' chain _ goal) = deriv.Glue chain (deriv_of goal)
deriv_of (trace.Goal' goal split _ body) = deriv.Goal goal split (deriv_of body)
deriv_of (trace.Reference' star alternative values _ body) = deriv.Reference star alternative values (deriv_of body)
deriv_of (trace.Leaf flavour) = made.Leaf flavour
deriv_of (trace.Unary' flavour _ input) = deriv.Unary flavour (deriv_of input)
deriv_of (trace.Binary' flavour _ left _ right) = deriv.Binary flavour (deriv_of left) (deriv_of right)
