-- Drawing numbers by a linear congruence: each state leads to the next, and each step gives a number.
use Rattle.std.specs.Prelude.{ℕ, zero, suc, ◌+◌, ◌*◌, ◌/◌, ◌%◌, ◌^◌, List, [], ◌∷◌}

-- the state that a seed begins with
unfoldable pub state_of_seed : ℕ → ℕ
state_of_seed seed = seed % 2 ^ 31

unfoldable pub next_state : ℕ → ℕ
next_state state = (state * 1103515245 + 12345) % 2 ^ 31

-- what the step from a state gives: the leading bits of the next one
unfoldable pub value_from : ℕ → ℕ
value_from state = next_state state / 65536

-- what is drawn of so many choices, 0 to one less
unfoldable pub drawn : ℕ → ℕ → ℕ
drawn choices state = value_from state % choices

-- the state behind so many steps
abbrev pub state_after : ℕ → ℕ → ℕ
state_after zero state = state
state_after (suc steps) state = state_after steps (next_state state)

-- so many numbers, drawn one after the other
abbrev pub numbers_from : ℕ → ℕ → ℕ → List ℕ
numbers_from zero choices state = []
numbers_from (suc count) choices state = drawn choices state ∷ numbers_from count choices (next_state state)
