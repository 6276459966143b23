use Rattle.spelling.proofs.Laws.{layout_behind_comment}
use Rattle.spelling.proofs.theorems.comments_make_no_difference.Goals as goal

pub returns : goal.returns
returns c = layout_behind_comment
