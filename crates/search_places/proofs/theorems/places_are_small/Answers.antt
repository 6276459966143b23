use Rattle.search_places.proofs.Laws.{few_alternatives, few_arguments}
use Rattle.search_places.proofs.theorems.places_are_small.Goals as goal

pub returns : goal.returns
returns c = record { alternatives = few_alternatives; arguments = few_arguments }
