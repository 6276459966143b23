-- Files by their names, and calls by their numbers, as a shelf in memory finds them.
use Rattle.std.specs.Prelude.{◌⊎◌, ◌≤◌, ◌+◌, ◌-◌, ◌^◌, min, Contains, ℕ, List, Option, option_map, find, Vec, String, string_bytes}
use Rattle.std.specs.Str.{bytes_eq}
use Rattle.std.specs.declared.alloc.Global.{Global}

-- the bytes of the first file of this name
abbrev pub first_named : List (String Global × Vec ℕ Global) → List ℕ → Option (List ℕ)
first_named files name = option_map (λ file. file.1.items) (find (λ file. bytes_eq (string_bytes file.0) name) files)

-- the number of calls after one more, which stays at its last value
abbrev pub one_more : ℕ → ℕ
one_more calls = min (calls + 1) (2 ^ 32 - 1)

-- the call after so many is one that fails: its number is listed, or past the last
abbrev pub FailsAtNumber : List ℕ → ℕ → Type 0
FailsAtNumber failing calls = (2 ^ 32 - 1 ≤ calls) ⊎ Contains failing (calls + 1)
