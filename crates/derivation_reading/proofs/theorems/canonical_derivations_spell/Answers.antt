use Rattle.derivation_reading.proofs.Laws.{written_derivation, derivation_again, commented_derivation}
use Rattle.derivation_reading.proofs.theorems.canonical_derivations_spell.Goals as goal

pub returns : goal.returns
returns c = record { written = written_derivation; spelled = derivation_again; commented = commented_derivation }
