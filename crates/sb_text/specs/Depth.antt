-- How deep a statement nests its brackets, and which statement is the first that is too deep or too long.
use Rattle.std.specs.Prelude.{ℕ, ◌+◌, ◌-◌, Bool, ◌==◌, ◌||◌, nat_lt, max, List, [], ◌∷◌, length, Option, if◌then◌else◌}
use Rattle.std.specs.List.{position_from}
use Rattle.sb_text.specs.Limits.{deepest_brackets, most_tokens}
use Rattle.sb_text.specs.declared.token.Token.{Token}
use Rattle.sb_text.specs.Statements.{Part}

-- ( [ {
abbrev pub is_open : Token → Bool
is_open t = t.first == 40 || t.first == 91 || t.first == 123

-- ) ] }
abbrev pub is_close : Token → Bool
is_close t = t.first == 41 || t.first == 93 || t.first == 125

-- one less than 0 is 0
abbrev pub depth_after : ℕ → Token → ℕ
depth_after depth t = if is_open t then depth + 1 else if is_close t then depth - 1 else depth

-- the greatest depth that is reached from a depth on
abbrev pub greatest_depth : ℕ → List Token → ℕ
greatest_depth depth [] = depth
greatest_depth depth (t ∷ ts) = max depth (greatest_depth (depth_after depth t) ts)

-- more than 4,096 tokens, or brackets deeper than 32
abbrev pub is_too_deep : List Token → Bool
is_too_deep ts = nat_lt most_tokens (length ts) || nat_lt deepest_brackets (greatest_depth 0 ts)

-- the number, from 1, of the first such statement
abbrev pub first_too_deep : List Part → Option ℕ
first_too_deep statements = position_from (λ part. is_too_deep part.0) 1 statements
