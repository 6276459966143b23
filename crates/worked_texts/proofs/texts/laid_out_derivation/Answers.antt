-- Written by tools/worked_texts.
use Rattle.std.proofs.Common.{refl}
use Rattle.spelling.specs.Layout.{layout}
use Rattle.std.specs.Fmt.{digits}
use Rattle.star_model.specs.Sets.{members}
use Rattle.star_model.specs.Sets.{has}
use Rattle.star_model.specs.Sets.{places}
use Rattle.derivation_reading.specs.Derivations.{steps}
use Rattle.derivation_reading.specs.Derivations.{HasInputs}
use Rattle.worked_texts.proofs.texts.laid_out_derivation.Goals as goal

pub returns : goal.returns
unfolding layout digits members has places steps HasInputs
returns c = refl
