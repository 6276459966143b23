-- Steps of loops over the bytes of an integer field.
use Rattle.std.proofs.Common.{ℕ, ◌+◌, ◌-◌, ◌*◌, List, fold}

-- the number that digits spell
abbrev pub spelled : List ℕ → ℕ
spelled digits = fold (λ n c. 10 * n + (c - 48)) 0 digits
