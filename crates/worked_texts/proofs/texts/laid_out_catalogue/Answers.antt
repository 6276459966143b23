-- Written by tools/worked_texts.
use Rattle.std.proofs.Common.{refl}
use Rattle.spelling.specs.Layout.{layout}
use Rattle.std.specs.Fmt.{digits}
use Rattle.catalogue.specs.Catalogues.{catalogue_of}
use Rattle.worked_texts.proofs.texts.laid_out_catalogue.Goals as goal

pub returns : goal.returns
unfolding layout digits catalogue_of
returns c = refl
