use Rattle.std.proofs.Common.{◌∙◌, ap, arith}
use Rattle.star_model.specs.Accepted.{weight_of}
use Rattle.star_check.specs.Sizes.{ShowsWide, found_over}
use Rattle.star_check.specs.Findings.{earlier_found}
use Rattle.star_check.proofs.Findings.{first_turn, first_all}
use Rattle.star_check.proofs.Rounds.{own_over, size_at}
use Rattle.star_check.proofs.weights.first_too_wide.Goals as goal

pub loop-position-preserved : goal.loop-position-preserved
loop-position-preserved c =
    first_turn
    (ShowsWide c.args.rules.now)
    c.as_slice-star-items.result.now
    c.loop-position.position
    c.star-item.result
    c.loop-position.first
    (found_over 4096 c.star-item.result.statement (c.index-weights-position.result))
    c.earlier_found-first.result
    c.loop-position-test.true
    c.star-item.is
    c.loop-position.invariant
    (own_over
    c.star-item.result
    4096
    (c.index-weights-position.result)
    (weight_of c.args.rules.now c.star-item.result)
    (c.index-weights-position.is ∙ size_at
    (weight_of c.args.rules.now)
    c.args.rules.now.stars
    c.as_slice-star-items.result.now
    c.args.weights.now
    c.loop-position.position
    c.index-weights-position.result
    c.star-item.result
    c.requires
    c.as_slice-star-items.ensures
    c.loop-position-test.true
    c.star-item.is))
    (c.earlier_found-first.ensures ∙ ap (earlier_found c.loop-position.first) c.too_wide.ensures)

pub returns : goal.returns
returns c =
    first_all
    (ShowsWide c.args.rules.now)
    c.as_slice-star-items.result.now
    c.args.rules.now.stars
    c.loop-position.position
    c.loop-position.first
    c.as_slice-star-items.ensures
    (omega (arith, c.loop-position-test.false))
    c.loop-position.invariant
