use Rattle.catalogue.proofs.Laws.{one_table}
use Rattle.catalogue.proofs.theorems.the_smallest_catalogue_is_spelled.Goals as goal

pub returns : goal.returns
returns c = one_table
