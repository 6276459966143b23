use Rattle.derivation_print.proofs.Laws.{root_can_be_written, plan_text_spells}
use Rattle.derivation_print.proofs.theorems.root_derivations_are_written.Goals as goal

pub returns : goal.returns
returns c = record { writable = root_can_be_written; spelled = plan_text_spells }
