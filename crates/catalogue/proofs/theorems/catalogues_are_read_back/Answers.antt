use Rattle.catalogue.proofs.Laws.{read_as, printed_read}
use Rattle.catalogue.proofs.theorems.catalogues_are_read_back.Goals as goal

pub returns : goal.returns
returns c = record { spelled = read_as; printed = printed_read }
