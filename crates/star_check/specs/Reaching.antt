-- Which STARs each STAR reaches, by their positions in the file: a row of bits for each.
use Prim.Native.Nat.{zero, suc}
use Rattle.std.specs.Prelude.{◌≡◌, ℕ, ◌<◌, Some, Bool, true, false, List, length, map, slice_get, slice_index, if◌then◌else◌, ◌↔◌}
use Rattle.std.specs.List.{list_any}
use Rattle.std.specs.Option.{option_map_or}
use Rattle.star_model.specs.Sets.{has, union}
use Rattle.star_model.specs.Vectors.{same_numbers}
use Rattle.star_model.specs.Accepted.{references_in, Reaches}
use Rattle.star_model.specs.declared.rules.StarDef.{StarDef}
use Rattle.star_model.specs.declared.rules.RuleFile.{RuleFile}

-- one of its references is to this name
abbrev pub refers : StarDef → List ℕ → Bool
refers s name = list_any (λ a. list_any (λ r. same_numbers name r.0) (references_in a.body)) s.alternatives

-- it refers to the STAR at this position
abbrev pub refers_to : List StarDef → StarDef → ℕ → Bool
refers_to stars s j = option_map_or (λ t. refers s t.name) (slice_get stars j) false

-- what a row has more where it has this position, whose row is the second
abbrev pub joined : ℕ → ℕ → ℕ → ℕ
joined row through via = if has row through then union row via else row

-- the rows, where each that has this position has its row too
abbrev pub joined_through : ℕ → List ℕ → List ℕ
joined_through k rows = map (λ row. joined row k (slice_index rows k)) rows

-- the same for each position below n
unfoldable pub joined_below : ℕ → List ℕ → List ℕ
joined_below zero rows = rows
joined_below (suc k) rows = joined_through k (joined_below k rows)

-- each row has the positions of the STARs to which its STAR refers
pub record AreDirect (stars : List StarDef) (rows : List ℕ) : Type 0 where
  pub long : length rows ≡ length stars
  pub refer : (i j : ℕ) (s : StarDef) → slice_get stars i ≡ Some s → has (slice_index rows i) j ≡ refers_to stars s j

-- each row has the positions of the STARs that its STAR reaches
pub record AreReached (rules : RuleFile) (rows : List ℕ) : Type 0 where
  pub long : length rows ≡ length rules.stars
  pub reach : (i j : ℕ) (s t : StarDef) → slice_get rules.stars i ≡ Some s → slice_get rules.stars j ≡ Some t
      → (has (slice_index rows i) j ≡ true) ↔ Reaches rules s.name t.name

-- the rows of the first n STARs
pub record AreDirectSoFar (stars : List StarDef) (n : ℕ) (rows : List ℕ) : Type 0 where
  pub long : length rows ≡ n
  pub refer : (i j : ℕ) (s : StarDef) → i < n → slice_get stars i ≡ Some s → has (slice_index rows i) j ≡ refers_to stars s j
