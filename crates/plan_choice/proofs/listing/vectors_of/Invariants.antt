use Rattle.std.proofs.Common.{◌≡◌, ◌++◌, map}
use Rattle.lolepop.specs.Derived.{vector_of}
use Rattle.plan_choice.proofs.listing.vectors_of.Given as goal

-- the vectors of the members so far, and those that are to come
abbrev pub invariant-loop-entry : goal.invariant-loop-entry
invariant-loop-entry l = map vector_of l.plans ≡ l.vectors.items ++ map vector_of l.entry-iterator.members.now
