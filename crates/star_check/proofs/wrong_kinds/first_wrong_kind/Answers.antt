use Rattle.star_model.specs.Accepted.{has_wrong_kind}
use Rattle.star_check.proofs.Firsts.{first_star_turn}
use Rattle.star_check.proofs.wrong_kinds.first_wrong_kind.Goals as goal

pub loop-star-preserved : goal.loop-star-preserved
loop-star-preserved c =
    first_star_turn
    (has_wrong_kind c.args.rules.now)
    c.as_slice-star-items.result.now
    c.loop-star.star-index
    c.star-item.result
    c.loop-star.first
    c.with_statement-first.result
    c.in_ok-has_wrong_kind.field-0
    c.loop-star-test.true
    c.star-item.is
    c.in_ok-has_wrong_kind.ensures
    c.loop-star.invariant
    c.with_statement-first.ensures
