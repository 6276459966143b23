use Rattle.catalogue.proofs.Laws.{one_catalogue, one_catalogue_statement}
use Rattle.catalogue.proofs.theorems.one_catalogue.Goals as goal

pub returns : goal.returns
returns c = record { text = one_catalogue; statement = one_catalogue_statement }
