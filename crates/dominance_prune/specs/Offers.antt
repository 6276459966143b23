-- What an offer makes of a set.
use Rattle.std.specs.Prelude.{◌≡◌, ℕ, ◌++◌, List, [], ◌∷◌, Bool, true, not, filter, position, Contains, Option, Some, None, map}
use Rattle.dominance_prune.specs.Antichains.{IsAntichain}
use Rattle.dominance_prune.specs.Gathering.{HasAbove}
use Rattle.dominance_prune.specs.declared.plan_set.Offer.{Offer}
use Rattle.dominance_prune.specs.declared.plan_set.Offer.TheVariants.{Kept, Covered}

-- the members that the item does not outrank, in their order
abbrev pub survivors : {T : Type 0} → (T → T → Bool) → List T → T → List T
survivors outranks members item = filter (λ m. not (outranks item m)) members

-- the position of the first member that outranks the item
abbrev pub first_above : {T : Type 0} → (T → T → Bool) → List T → T → Option ℕ
first_above outranks members item = position (λ m. outranks m item) members

-- what an offer with this answer made of the old set
abbrev pub Answered : {T : Type 0} → (T → T → Bool) → List T → T → List T → Offer → Type 0
Answered outranks old item new Kept = (first_above outranks old item ≡ None) × (new ≡ survivors outranks old item ++ item ∷ [])
Answered outranks old item new (Covered i) = (first_above outranks old item ≡ Some i) × (new ≡ old)

-- the offers, each an item with its answer, led one after another from the old set to the new
abbrev pub Run : {T : Type 0} → (T → T → Bool) → List (T × Offer) → List T → List T → Type 0
Run outranks [] old new = new ≡ old
Run {T} outranks (offer ∷ offers) old new = (next : List T) × Answered outranks old offer.0 next offer.1 × Run outranks offers next new

-- the item is one of those that were offered
abbrev pub IsOffered : {T : Type 0} → List (T × Offer) → T → Type 0
IsOffered offers x = Contains (map (λ o. o.0) offers) x

-- what these offers leave of a new set
pub record Stands {T : Type 0} (outranks : T → T → Bool) (offers : List (T × Offer)) (new : List T) : Type 0 where
  pub covered : (x : T) → IsOffered offers x → HasAbove outranks new x
  pub offered : (m : T) → Contains new m → IsOffered offers m
  pub apart : IsAntichain outranks new
  pub best : (x m : T) → IsOffered offers x → Contains new m → outranks x m ≡ true → outranks m x ≡ true
