use Rattle.derivation_reading.proofs.Laws.{read_as, printed_read, plan_read}
use Rattle.derivation_reading.proofs.theorems.derivations_are_read_back.Goals as goal

pub returns : goal.returns
returns c = record { spelled = read_as; printed = printed_read; commented = plan_read }
