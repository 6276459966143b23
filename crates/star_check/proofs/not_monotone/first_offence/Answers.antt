use Rattle.std.proofs.Common.{refl, arith}
use Rattle.star_check.specs.Offences.{ShowsOffence}
use Rattle.star_check.proofs.Findings.{first_turn, first_all}
use Rattle.star_check.proofs.not_monotone.first_offence.Goals as goal

pub loop-definition-preserved : goal.loop-definition-preserved
loop-definition-preserved c =
    first_turn
    ShowsOffence
    c.args.formulas.now
    c.loop-definition.definition-index
    c.definition-item.result
    c.loop-definition.first
    c.offence_of.result
    c.earlier_found-first.result
    c.loop-definition-test.true
    c.definition-item.is
    c.loop-definition.invariant
    c.offence_of.ensures
    c.earlier_found-first.ensures

pub returns : goal.returns
returns c = first_all ShowsOffence c.args.formulas.now c.args.formulas.now c.loop-definition.definition-index c.loop-definition.first refl (omega (arith, c.loop-definition-test.false)) c.loop-definition.invariant
