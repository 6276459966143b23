-- The places of a derivation as they are counted while it is read.
use Rattle.std.specs.Prelude.{ℕ, Bool, not, ◌&&◌, nat_lt, List, [], ◌∷◌, if◌then◌else◌}
use Rattle.derivation_reading.specs.Derivations.{Step, is_glue, is_goal}
use Rattle.derivation_reading.specs.declared.places.Awaited.{Awaited}
use Rattle.derivation_reading.specs.declared.places.Awaited.TheVariants as next

abbrev pub awaited_behind : Step → Awaited
awaited_behind node = if is_glue node then next.Goal else next.Other

-- what may stand behind these nodes
abbrev pub awaited : List Step → Awaited
awaited [] = next.Glue
awaited (last ∷ []) = awaited_behind last
awaited (first ∷ second ∷ later) = awaited (second ∷ later)

abbrev pub admits : Awaited → Step → Bool
admits next.Glue node = is_glue node
admits next.Goal node = is_goal node
admits next.Other node = not (is_goal node)

-- whether one of so many places is left, and the node may fill it
abbrev pub takes : ℕ → Awaited → Step → Bool
takes left next node = nat_lt 0 left && admits next node
