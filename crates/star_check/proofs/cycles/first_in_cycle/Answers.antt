use Rattle.std.proofs.Common.{◌∙◌, ap, arith}
use Rattle.star_check.specs.CycleFaults.{ShowsCycle, found_if}
use Rattle.star_check.specs.Findings.{earlier_found}
use Rattle.star_check.proofs.Findings.{first_turn, first_all}
use Rattle.star_check.proofs.Glues.{own_cycle}
use Rattle.star_check.proofs.cycles.first_in_cycle.Goals as goal

pub loop-position-preserved : goal.loop-position-preserved
loop-position-preserved c =
    first_turn
    (ShowsCycle c.args.rules.now)
    c.as_slice-star-items.result.now
    c.loop-position.position
    c.star-item.result
    c.loop-position.first
    (found_if c.has.result c.star-item.result.statement)
    c.earlier_found-first.result
    c.loop-position-test.true
    c.star-item.is
    c.loop-position.invariant
    (own_cycle
    c.args.rules.now
    c.as_slice-star-items.result.now
    c.args.rows.now
    c.loop-position.position
    c.star-item.result
    c.has.result
    c.as_slice-star-items.ensures
    c.requires.reached
    c.loop-position-test.true
    c.star-item.is
    c.has.ensures)
    (c.earlier_found-first.ensures ∙ ap (earlier_found c.loop-position.first) c.found_if-own.ensures)

pub returns : goal.returns
returns c =
    first_all
    (ShowsCycle c.args.rules.now)
    c.as_slice-star-items.result.now
    c.args.rules.now.stars
    c.loop-position.position
    c.loop-position.first
    c.as_slice-star-items.ensures
    (omega (arith, c.loop-position-test.false))
    c.loop-position.invariant
