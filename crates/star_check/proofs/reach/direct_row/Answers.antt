use Rattle.std.proofs.Common.{arith, ap, ◌∙◌, ◌||◌, nat_eq}
use Rattle.std.specs.Prelude.{◌&&◌}
use Rattle.star_model.specs.Sets.{has}
use Rattle.star_check.specs.Reaching.{refers_to}
use Rattle.star_check.proofs.Rows.{no_position, one_position, all_positions}
use Rattle.star_check.proofs.reach.direct_row.Goals as goal

pub loop-position-init : goal.loop-position-init
loop-position-init c = λ k. no_position (refers_to c.args.stars.now c.args.star.now k) k

pub loop-position-preserved : goal.loop-position-preserved
loop-position-preserved c =
    λ k.
    one_position
    c.args.stars.now
    c.args.star.now
    c.index-stars-position.result
    c.loop-position.row
    c.with_position-row.result
    c.loop-position.position
    k
    c.loop-position-test.true
    c.index-stars-position.is
    (c.loop-position.invariant k)
    (c.with_position-row.ensures k ∙ ap (λ b. has c.loop-position.row k || (b && nat_eq k c.loop-position.position)) c.refers.ensures)

pub returns : goal.returns
returns c = λ k. all_positions c.args.stars.now c.args.star.now c.loop-position.row c.loop-position.position k (omega (arith, c.loop-position-test.false)) (c.loop-position.invariant k)
