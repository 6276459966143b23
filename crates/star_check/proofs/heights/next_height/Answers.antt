use Rattle.std.proofs.Common.{arith}
use Rattle.star_check.proofs.Rounds.{low_next}
use Rattle.star_check.proofs.heights.next_height.Goals as goal

pub overflow_add-result : goal.overflow_add-result
overflow_add-result c =
    let low = low_next c.args.stars.now c.args.heights.now c.args.star.now c.greatest_of_references.result c.requires.low c.greatest_of_references.ensures in omega (arith, low)
