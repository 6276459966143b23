-- The walk over the nodes of a formula, from the first.
use Rattle.std.specs.Prelude.{ℕ, ◌+◌, Bool, if◌then◌else◌, List, [], ◌∷◌, Result, Ok, Err}
use Rattle.star_model.specs.declared.formula.Formula.{Formula}
use Rattle.star_model.specs.Monotone.{offends}
use Rattle.monotone_check.specs.declared.walk.MonoFault.{MonoFault}

-- the number of the node that so many stand before, or the fault of one that offends
abbrev pub entered : ℕ → Bool → Result ℕ MonoFault
entered before offence = if offence then Err (record { node = before + 1 }) else Ok (before + 1)

-- how many nodes there are up to the end of these, where so many stand before them, or the first that offends
unfoldable pub walked : ℕ → List Formula → Result ℕ MonoFault
walked before [] = Ok before
walked before (f ∷ fs) = if offends f then Err (record { node = before + 1 }) else walked (before + 1) fs
