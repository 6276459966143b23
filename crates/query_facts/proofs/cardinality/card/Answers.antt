use Rattle.std.proofs.Common.{refl, sym}
use Rattle.star_model.specs.Cardinality.{card}
use Rattle.query_facts.proofs.MemberWalks.{members_first}
use Rattle.query_facts.proofs.cardinality.card.Goals as goal

pub loop-quant-init : goal.loop-quant-init
unfolding card
loop-quant-init c = rw (c.cut-rows.ensures, members_first c.args.tables) (sym c.len-left.ensures, refl)
