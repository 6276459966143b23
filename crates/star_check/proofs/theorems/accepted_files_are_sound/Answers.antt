use Rattle.star_check.proofs.Laws.{values_are_kinded, no_glue_below, low_heights, bodies_are_shallow}
use Rattle.star_check.proofs.theorems.accepted_files_are_sound.Goals as goal

pub returns-clause-kinds : goal.returns-clause-kinds
returns-clause-kinds c = values_are_kinded

pub returns-clause-glue : goal.returns-clause-glue
returns-clause-glue c = no_glue_below

pub returns-clause-low : goal.returns-clause-low
returns-clause-low c = low_heights

pub returns-clause-shallow : goal.returns-clause-shallow
returns-clause-shallow c = bodies_are_shallow
