use Rattle.catalogue.proofs.Laws.{canonical_catalogue}
use Rattle.catalogue.proofs.theorems.canonical_catalogues_spell.Goals as goal

pub returns : goal.returns
returns c = canonical_catalogue
