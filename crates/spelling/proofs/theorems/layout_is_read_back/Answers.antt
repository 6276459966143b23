use Rattle.spelling.proofs.LayoutLaws.{statements_of_layout}
use Rattle.spelling.proofs.Formed.{layout_again}
use Rattle.spelling.proofs.theorems.layout_is_read_back.Goals as goal

pub returns : goal.returns
returns c = record { any = statements_of_layout; again = layout_again }
