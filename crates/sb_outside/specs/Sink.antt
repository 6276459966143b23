-- What a sink is to its callers: what it has taken, where it tells, and what it counts.
use Rattle.std.specs.Prelude.{◌≡◌, ◌≤◌, ◌++◌, ℕ, List, length, take, Option, None, Some}

pub record SinkState : Type 0 where
  -- what it has taken, where it tells
  pub taken : Option (List ℕ)
  -- how often it failed
  pub faults : ℕ
  -- how often it was called
  pub puts : ℕ

-- the piece was added
abbrev pub Adds : Option (List ℕ) → List ℕ → Option (List ℕ) → Type 0
Adds None piece after = after ≡ None
Adds (Some before) piece after = after ≡ Some (before ++ piece)

-- a prefix of the piece was added
abbrev pub AddsPrefix : Option (List ℕ) → List ℕ → Option (List ℕ) → Type 0
AddsPrefix before piece after = (n : ℕ) × (n ≤ length piece) × Adds before (take n piece) after
