-- What a rule file's STARs are called, and their alternatives.
use Rattle.std.specs.Prelude.{ℕ, ◌-◌, nat_eq, List, Option, None, slice_get, option_and_then, if◌then◌else◌}
use Rattle.std.specs.List.{find}
use Rattle.star_model.specs.Vectors.{same_numbers}
use Rattle.star_model.specs.declared.rules.StarDef.{StarDef}
use Rattle.star_model.specs.declared.rules.Alternative.{Alternative}
use Rattle.star_model.specs.declared.rules.RuleFile.{RuleFile}

-- the STAR of that name
abbrev pub star_named : RuleFile → List ℕ → Option StarDef
star_named rules name = find (λ s. same_numbers s.name name) rules.stars

-- the item that has the printed number, from 1
abbrev pub numbered : {A : Type 0} → List A → ℕ → Option A
numbered xs n = if nat_eq n 0 then None else slice_get xs (n - 1)

-- the alternative of a STAR that has the printed number
abbrev pub alternative_of : RuleFile → List ℕ → ℕ → Option Alternative
alternative_of rules star n = option_and_then (λ s. numbered s.alternatives n) (star_named rules star)
