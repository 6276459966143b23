-- The root STAR that makes the plans of a split.
use Rattle.std.specs.Prelude.{ℕ, List, Option, Some, None, codes}

-- the root for one quantifier, where there is no split, and for several
abbrev pub root_of_split : Option (ℕ × ℕ) → List ℕ
root_of_split None = codes "AccessRoot"
root_of_split (Some p) = codes "JoinRoot"
