-- A sink in memory, and how it answers a piece.
use Rattle.std.specs.Prelude.{◌==◌, ◌-◌, ◌^◌, min, nat_le, if◌then◌else◌, length, ℕ, List, find, Option, None, Some, option_map, ◌+◌}
use Rattle.sb_outside.specs.Sink.{SinkState}

-- what the callers of a sink in memory see of it
pub record SinkContents : Type 0 where
  pub taken : List ℕ
  -- the numbers of calls that fail, with the bytes that each keeps
  pub failing : List (ℕ × ℕ)
  pub calls : ℕ
  -- how many bytes it takes in all
  pub room : ℕ
  pub faults : ℕ

-- it tells what it has taken
abbrev pub state_of : SinkContents → SinkState
state_of sink = record { taken = Some sink.taken; faults = sink.faults; puts = sink.calls }

-- what the first entry of this number keeps
abbrev pub listed : List (ℕ × ℕ) → ℕ → Option ℕ
listed failing number = option_map (λ entry. entry.1) (find (λ entry. entry.0 == number) failing)

-- how much of a piece is added before the call fails, where so much room is left; none: all of it, and the call succeeds
abbrev pub cut_by : Option ℕ → ℕ → ℕ → Option ℕ
cut_by (Some keep) size left = Some (min keep (min size left))
cut_by None size left = if nat_le size left then None else Some left

-- the same of the call after so many; past the last number nothing is added
abbrev pub cut : List (ℕ × ℕ) → ℕ → ℕ → ℕ → Option ℕ
cut failing calls size left =
    if nat_le (2 ^ 32 - 1) calls then Some 0 else cut_by (listed failing (calls + 1)) size left

abbrev pub cut_of : SinkContents → ℕ → Option ℕ
cut_of sink size = cut sink.failing sink.calls size (sink.room - length sink.taken)
