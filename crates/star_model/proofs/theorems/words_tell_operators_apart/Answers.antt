use Rattle.star_model.proofs.Laws.{same_flavour_word}
use Rattle.star_model.proofs.theorems.words_tell_operators_apart.Goals as goal

pub returns : goal.returns
returns c = same_flavour_word
