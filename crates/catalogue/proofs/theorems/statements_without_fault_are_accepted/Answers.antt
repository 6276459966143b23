use Rattle.catalogue.proofs.Laws.{no_fault, meant, formed}
use Rattle.catalogue.proofs.theorems.statements_without_fault_are_accepted.Goals as goal

pub returns : goal.returns
returns c = record { clear = no_fault; meant = meant; formed = formed }
