use Rattle.std.proofs.Common.{◌≡◌, map, take}
use Rattle.star_check.specs.Sizes.{next_height}
use Rattle.star_check.proofs.heights.next_heights.Given as goal

abbrev pub invariant-loop-star : goal.invariant-loop-star
invariant-loop-star l = l.next.items ≡ map (next_height l.stars l.heights) (take l.star-index l.stars)
