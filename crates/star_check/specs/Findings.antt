-- What is found in the first of a list's statements that has something to show.
use Rattle.std.specs.Prelude.{◌≡◌, ◌≤◌, nat_lt, List, Option, Some, None, Contains, if◌then◌else◌}
use Rattle.star_check.specs.declared.found.Found.{Found}

-- The finding is of the statement with the least number of those that have one; or none has. (Each has at most one.)
abbrev pub IsFirstFound : {A T : Type 0} → (A → Found T → Type 0) → List A → Option (Found T) → Type 0
IsFirstFound {A} {T} Shows items None = (x : A) (f : Found T) → Contains items x → Shows x f → ⊥
IsFirstFound {A} {T} Shows items (Some f) =
    ((x : A) × Contains items x × Shows x f) × ((x : A) (g : Found T) → Contains items x → Shows x g → f.statement ≤ g.statement)

-- what this item alone has to show
abbrev pub IsOwn : {A T : Type 0} → (A → Found T → Type 0) → A → Option (Found T) → Type 0
IsOwn {A} {T} Shows x None = (f : Found T) → Shows x f → ⊥
IsOwn {A} {T} Shows x (Some f) = Shows x f × ((g : Found T) → Shows x g → f.statement ≡ g.statement)

-- the finding of the earlier statement
abbrev pub earlier_found : {T : Type 0} → Option (Found T) → Option (Found T) → Option (Found T)
earlier_found None own = own
earlier_found (Some f) None = Some f
earlier_found (Some f) (Some g) = if nat_lt g.statement f.statement then Some g else Some f
