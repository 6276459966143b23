use Rattle.search_places.proofs.Laws.{input_part, left_part, right_part, reference_part, body_is_lower}
use Rattle.search_places.proofs.theorems.searches_go_down.Goals as goal

pub returns : goal.returns
returns c = record { inputs = input_part; lefts = left_part; rights = right_part; references = reference_part; bodies = body_is_lower }
