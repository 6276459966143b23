-- What sets gather of what they are offered.
use Rattle.std.specs.Prelude.{◌≡◌, ◌++◌, List, [], Bool, true, Any, Contains, ◌⊎◌}
use Rattle.dominance_prune.specs.Antichains.{IsAntichain}

-- a member outranks x
abbrev pub HasAbove : {T : Type 0} → (T → T → Bool) → List T → T → Type 0
HasAbove outranks members x = Any (λ m. outranks m x ≡ true) members

-- between the old set and the new each x that has Q was offered, and nothing else
pub record Gathers {T : Type 0} (outranks : T → T → Bool) (old new : List T) (Q : T → Type 0) : Type 0 where
  pub covers : (x : T) → Q x → HasAbove outranks new x
  pub keeps : (x : T) → HasAbove outranks old x → HasAbove outranks new x
  pub from : (m : T) → Contains new m → Contains old m ⊎ Q m

-- what one of the sources makes
abbrev pub From : {S T : Type 0} → List S → (S → T → Type 0) → T → Type 0
From {S} sources P x = (s : S) × Contains sources s × P s x

-- A loop over the members of a set has seen some and has the others left, and what the seen ones make was offered.
pub record Passes {S T : Type 0} (outranks : T → T → Bool) (members seen left : List S) (old new : List T) (P : S → T → Type 0) : Type 0 where
  pub all : members ≡ seen ++ left
  pub gathered : Gathers outranks old new (From seen P)

-- of all that has Q, the set has what is outranked by nothing else
pub record IsFrontier {T : Type 0} (outranks : T → T → Bool) (Q : T → Type 0) (members : List T) : Type 0 where
  pub gathered : Gathers outranks [] members Q
  pub apart : IsAntichain outranks members
