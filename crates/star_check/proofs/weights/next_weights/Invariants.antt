use Rattle.std.proofs.Common.{◌≡◌, map, take}
use Rattle.star_check.specs.Sizes.{next_weight}
use Rattle.star_check.proofs.weights.next_weights.Given as goal

abbrev pub invariant-loop-star : goal.invariant-loop-star
invariant-loop-star l = l.next.items ≡ map (next_weight l.stars l.weights) (take l.star-index l.stars)
