use Rattle.star_model.specs.Accepted.{IsInCycle, HasGlueInAccess}
use Rattle.star_check.proofs.Orders.{star_found, no_star_found, passed_4, passed_5}
use Rattle.star_check.proofs.faults.fault_of_references.Goals as goal

pub returns-in-Some : goal.returns-in-Some
returns-in-Some c = (passed_4 c.args.rules.now c.requires.names, star_found c.args.rules.now (IsInCycle c.args.rules.now) c.in-Some.found c.in-Some.ensures)

pub returns-in-Some-first_glue_in_access : goal.returns-in-Some-first_glue_in_access
returns-in-Some-first_glue_in_access c = (
  passed_5 c.args.rules.now c.requires.names (no_star_found c.args.rules.now (IsInCycle c.args.rules.now) c.in_default.ensures),
  star_found c.args.rules.now (HasGlueInAccess c.args.rules.now) c.in-Some-first_glue_in_access.found c.in-Some-first_glue_in_access.ensures,
)

pub returns : goal.returns
returns c = record {
  no_cycle = no_star_found c.args.rules.now (IsInCycle c.args.rules.now) c.in_default.ensures;
  no_glue_in_access = no_star_found c.args.rules.now (HasGlueInAccess c.args.rules.now) c.in-None.ensures;
}
