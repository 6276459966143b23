use Rattle.star_check.proofs.Laws.{bodies_refer_below, stars_refer_below, height_is_named, heights_are_from_one, its_own}
use Rattle.star_check.proofs.theorems.references_go_down.Goals as goal

pub returns : goal.returns
returns c = record { bodies = bodies_refer_below; stars = stars_refer_below; named = height_is_named; own = its_own; some = heights_are_from_one }
