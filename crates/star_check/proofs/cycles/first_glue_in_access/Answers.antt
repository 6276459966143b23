use Rattle.std.proofs.Common.{◌∙◌, ap, sym, arith}
use Rattle.star_check.specs.CycleFaults.{ShowsGlue, found_if, access_row}
use Rattle.star_check.specs.Findings.{earlier_found}
use Rattle.star_check.proofs.Findings.{first_turn, first_all}
use Rattle.star_check.proofs.Glues.{own_glue}
use Rattle.star_check.proofs.cycles.first_glue_in_access.Goals as goal

pub loop-position-preserved : goal.loop-position-preserved
loop-position-preserved c =
    first_turn
    (ShowsGlue c.args.rules.now)
    c.as_slice-star-items.result.now
    c.loop-position.position
    c.star-item.result
    c.loop-position.first
    (found_if c.has_glue_in_access.result c.star-item.result.statement)
    c.earlier_found-first.result
    c.loop-position-test.true
    c.star-item.is
    c.loop-position.invariant
    (own_glue
    c.args.rules.now
    c.as_slice-star-items.result.now
    c.args.rows.now
    c.access_row-access.result
    c.loop-position.position
    c.star-item.result
    c.has_glue_in_access.result
    c.as_slice-star-items.ensures
    c.requires.reached
    (c.access_row-access.ensures ∙ ap (λ stars. access_row stars c.args.rows.now) (c.as_slice.ensures ∙ sym c.as_slice-star-items.ensures))
    c.loop-position-test.true
    c.star-item.is
    c.has_glue_in_access.ensures)
    (c.earlier_found-first.ensures ∙ ap (earlier_found c.loop-position.first) c.found_if-own.ensures)

pub returns : goal.returns
returns c =
    first_all
    (ShowsGlue c.args.rules.now)
    c.as_slice-star-items.result.now
    c.args.rules.now.stars
    c.loop-position.position
    c.loop-position.first
    c.as_slice-star-items.ensures
    (omega (arith, c.loop-position-test.false))
    c.loop-position.invariant
