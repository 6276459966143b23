use Rattle.search_places.proofs.Laws.{references_none, glued_none, reference_there, glued_there, references_kept, glued_put}
use Rattle.search_places.proofs.theorems.tables_stay_right.Goals as goal

pub returns : goal.returns
returns c = record { no_references = references_none; none_glued = glued_none; found = reference_there; found_glued = glued_there; kept = references_kept; put = glued_put }
