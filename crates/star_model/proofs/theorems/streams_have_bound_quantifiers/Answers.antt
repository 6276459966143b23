use Rattle.std.proofs.Common.{nat_lt}
use Rattle.star_model.proofs.Laws.{streams_pass, stream_passes}
use Rattle.star_model.proofs.theorems.streams_have_bound_quantifiers.Goals as goal

pub returns : goal.returns
returns c = record { each = streams_pass; some = λ q b e k h all. streams_pass q (nat_lt 0) b e k h all; stream = stream_passes }
