use Rattle.star_check.proofs.Laws.{root_is_sound, below_is_sound, goal_leads_to_sound, glue_reads_within, leads_further}
use Rattle.star_check.proofs.theorems.goals_lead_to_sound_places.Goals as goal

pub returns : goal.returns
returns c = record { root = root_is_sound; below = below_is_sound; all = goal_leads_to_sound; glue = glue_reads_within; further = leads_further }
