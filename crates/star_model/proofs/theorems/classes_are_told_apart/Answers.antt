use Rattle.star_model.proofs.Laws.{one_class, same_class_word}
use Rattle.star_model.proofs.theorems.classes_are_told_apart.Goals as goal

pub returns : goal.returns
returns c = record { test = one_class; word = same_class_word }
