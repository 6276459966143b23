-- STARs that reach themselves, and STARs of accesses that call Glue, as they are looked for.
use Rattle.std.specs.Prelude.{◌≡◌, ℕ, Bool, nat_lt, List, length, Option, Some, None, position, slice_index, codes, if◌then◌else◌}
use Rattle.std.specs.List.{list_any}
use Rattle.std.specs.Option.{option_map_or}
use Rattle.star_model.specs.Vectors.{same_numbers}
use Rattle.star_model.specs.Accepted.{glues_in, IsInCycle, HasGlueInAccess}
use Rattle.star_model.specs.declared.rules.Alternative.{Alternative}
use Rattle.star_model.specs.declared.rules.StarDef.{StarDef}
use Rattle.star_model.specs.declared.rules.RuleFile.{RuleFile}
use Rattle.star_check.specs.declared.found.Found.{Found}

abbrev pub ShowsCycle : RuleFile → StarDef → Found (Unit {0}) → Type 0
ShowsCycle rules s f = (s.statement ≡ f.statement) × IsInCycle rules s

abbrev pub ShowsGlue : RuleFile → StarDef → Found (Unit {0}) → Type 0
ShowsGlue rules s f = (s.statement ≡ f.statement) × HasGlueInAccess rules s

-- the statement, where it has the case
abbrev pub found_if : Bool → ℕ → Option (Found (Unit {0}))
found_if shows k = if shows then Some (record { statement = k; what = tt }) else None

-- the row of `AccessRoot`; empty where there is none
abbrev pub access_row : List StarDef → List ℕ → ℕ
access_row stars rows = option_map_or (λ i. slice_index rows i) (position (λ s. same_numbers s.name (codes "AccessRoot")) stars) 0

abbrev pub has_glue : List Alternative → Bool
has_glue alternatives = list_any (λ a. nat_lt 0 (length (glues_in a.body))) alternatives
