use Rattle.std.proofs.Common.{List, subst}
use Rattle.std.specs.Prelude.{Some, None}
use Rattle.star_model.specs.declared.rules.FormulaDef.{FormulaDef}
use Rattle.star_check.specs.Findings.{IsFirstFound}
use Rattle.star_check.specs.Offences.{ShowsOffence}
use Rattle.star_check.proofs.Orders.{offence_found, no_offence_found, passed_8}
use Rattle.star_check.proofs.faults.fault_of_formulas.Goals as goal

pub returns-in-Some-first_offence : goal.returns-in-Some-first_offence
returns-in-Some-first_offence c = (
  passed_8 c.args.rules.now c.requires.names c.requires.references c.in_default.ensures c.in_default-missing_formula.ensures,
  offence_found
      c.args.rules.now
      c.in-Some-first_offence.found
      (subst (λ (ds : List FormulaDef). IsFirstFound ShowsOffence ds (Some c.in-Some-first_offence.found)) c.as_slice.ensures c.in-Some-first_offence.ensures),
)

pub returns-in-None : goal.returns-in-None
returns-in-None c = record {
  roots = c.in_default.ensures;
  formulas = c.in_default-missing_formula.ensures;
  monotone = no_offence_found c.args.rules.now (subst (λ (ds : List FormulaDef). IsFirstFound ShowsOffence ds None) c.as_slice.ensures c.in-None.ensures);
}
