-- Lists of which no member outranks another.
use Rattle.std.specs.Prelude.{◌≡◌, List, Bool, false, AllPairs}

-- no member outranks another
abbrev pub IsAntichain : {T : Type 0} → (T → T → Bool) → List T → Type 0
IsAntichain outranks members = AllPairs (λ x y. (outranks x y ≡ false) × (outranks y x ≡ false)) members
