-- Heights and weights of STARs, seen one STAR deeper in each round.
use Rattle.std.specs.Prelude.{◌≡◌, ℕ, ◌+◌, max, true, nat_lt, List, Option, Some, None, position, slice_index, if◌then◌else◌}
use Rattle.std.specs.List.{fold}
use Rattle.std.specs.Option.{option_map_or}
use Rattle.star_model.specs.Limits.{most_height, most_weight}
use Rattle.star_model.specs.Numbers.{cut_sum}
use Rattle.star_model.specs.Vectors.{same_numbers}
use Rattle.star_model.specs.Accepted.{references_in, references_of, height_of, weight_of}
use Rattle.star_model.specs.declared.rules.StarDef.{StarDef}
use Rattle.star_model.specs.declared.rules.RuleFile.{RuleFile}
use Rattle.star_check.specs.declared.found.Found.{Found}

-- the size of the STAR of this name, where the list has that of each STAR; 0 where there is none of this name
abbrev pub size_among : List StarDef → List ℕ → List ℕ → ℕ
size_among stars sizes name = option_map_or (λ i. slice_index sizes i) (position (λ s. same_numbers s.name name) stars) 0

-- the greater of this height and that of the STAR of the name
unfoldable pub greater : List StarDef → List ℕ → ℕ → List ℕ → ℕ
greater stars heights h name = max h (size_among stars heights name)

-- 1 and the greatest of these heights of the STARs that it refers to
abbrev pub next_height : List StarDef → List ℕ → StarDef → ℕ
next_height stars heights s = 1 + fold (λ h r. greater stars heights h r.0) 0 (references_of s)

-- the sum over the alternatives of 1 and these weights of the STARs that they refer to
abbrev pub next_weight : List StarDef → List ℕ → StarDef → ℕ
next_weight stars weights s = fold (λ w a. cut_sum w (fold (λ x r. cut_sum x (size_among stars weights r.0)) 1 (references_in a.body))) 0 s.alternatives

-- the statement and its size, where that is over the limit
abbrev pub found_over : ℕ → ℕ → ℕ → Option (Found ℕ)
found_over limit k size = if nat_lt limit size then Some (record { statement = k; what = size }) else None

abbrev pub ShowsTall : RuleFile → StarDef → Found ℕ → Type 0
ShowsTall rules s f = (s.statement ≡ f.statement) × (nat_lt most_height (height_of rules s) ≡ true) × (height_of rules s ≡ f.what)

abbrev pub ShowsWide : RuleFile → StarDef → Found ℕ → Type 0
ShowsWide rules s f = (s.statement ≡ f.statement) × (nat_lt most_weight (weight_of rules s) ≡ true) × (weight_of rules s ≡ f.what)
