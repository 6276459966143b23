use Rattle.worked_choices.proofs.Intersections.{both_are_least, one_is_not_least}
use Rattle.worked_choices.proofs.the_intersection_is_least.Goals as goal

pub returns-clause-cheaper : goal.returns-clause-cheaper
returns-clause-cheaper c = both_are_least

pub returns-clause-dearer : goal.returns-clause-dearer
returns-clause-dearer c = one_is_not_least
