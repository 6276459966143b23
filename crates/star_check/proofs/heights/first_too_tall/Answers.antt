use Rattle.std.proofs.Common.{◌∙◌, ap, arith}
use Rattle.std.specs.Prelude.{slice_index}
use Rattle.star_model.specs.Accepted.{height_of}
use Rattle.star_check.specs.Sizes.{ShowsTall, found_over}
use Rattle.star_check.specs.Findings.{earlier_found}
use Rattle.star_check.proofs.Findings.{first_turn, first_all}
use Rattle.star_check.proofs.Rounds.{own_over, size_at}
use Rattle.star_check.proofs.heights.first_too_tall.Goals as goal

pub loop-position-preserved : goal.loop-position-preserved
loop-position-preserved c =
    first_turn
    (ShowsTall c.args.rules.now)
    c.as_slice-star-items.result.now
    c.loop-position.position
    c.star-item.result
    c.loop-position.first
    (found_over 16 c.star-item.result.statement (slice_index c.args.heights.now c.loop-position.position))
    c.earlier_found-first.result
    c.loop-position-test.true
    c.star-item.is
    c.loop-position.invariant
    (own_over
    c.star-item.result
    16
    (slice_index c.args.heights.now c.loop-position.position)
    (height_of c.args.rules.now c.star-item.result)
    (size_at
    (height_of c.args.rules.now)
    c.args.rules.now.stars
    c.as_slice-star-items.result.now
    c.args.heights.now
    c.loop-position.position
    0
    c.star-item.result
    c.requires
    c.as_slice-star-items.ensures
    c.loop-position-test.true
    c.star-item.is))
    (c.earlier_found-first.ensures ∙ ap (earlier_found c.loop-position.first) c.too_tall.ensures)

pub returns : goal.returns
returns c =
    first_all
    (ShowsTall c.args.rules.now)
    c.as_slice-star-items.result.now
    c.args.rules.now.stars
    c.loop-position.position
    c.loop-position.first
    c.as_slice-star-items.ensures
    (omega (arith, c.loop-position-test.false))
    c.loop-position.invariant
