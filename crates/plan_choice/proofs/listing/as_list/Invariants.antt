use Rattle.std.proofs.Common.{◌≡◌, ◌++◌}
use Rattle.plan_choice.proofs.listing.as_list.Given as goal

-- what was moved, and what is left
abbrev pub invariant-loop-vector : goal.invariant-loop-vector
invariant-loop-vector l = l.fn.vectors.items ≡ l.list ++ l.vector-iterator.rest.items
