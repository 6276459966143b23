use Rattle.std.proofs.Common.{refl, ap, ◌∙◌}
use Rattle.star_check.specs.Reaching.{joined_through, joined_below}
use Rattle.star_check.proofs.Closing.{joined_more}
use Rattle.star_check.proofs.reach.join_all.Goals as goal

pub loop-through-init : goal.loop-through-init
unfolding joined_below
loop-through-init c = refl

pub loop-through-preserved : goal.loop-through-preserved
loop-through-preserved c = c.join_through.ensures ∙ ap (joined_through c.loop-through.through) c.loop-through.invariant ∙ joined_more c.loop-through.through c.args.rows.now
