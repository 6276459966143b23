use Rattle.star_model.proofs.Laws.{split_once, split_only}
use Rattle.star_model.proofs.theorems.each_split_comes_once.Goals as goal

pub returns : goal.returns
returns c = record { once = split_once; only = split_only }
