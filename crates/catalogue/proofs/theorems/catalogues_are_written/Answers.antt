use Rattle.catalogue.proofs.Laws.{written_catalogue, written_catalogue_spells}
use Rattle.catalogue.proofs.theorems.catalogues_are_written.Goals as goal

pub returns : goal.returns
returns c = record { means = written_catalogue; spelled = written_catalogue_spells }
