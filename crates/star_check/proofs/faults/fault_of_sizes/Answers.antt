use Rattle.star_model.specs.Accepted.{height_of, weight_of}
use Rattle.star_check.proofs.Orders.{size_found, no_size_found, passed_9, passed_10}
use Rattle.star_check.proofs.faults.fault_of_sizes.Goals as goal

pub returns-in-Some : goal.returns-in-Some
returns-in-Some c =
    let found = size_found c.args.rules.now 16 (height_of c.args.rules.now) c.in-Some.found c.in-Some.ensures in
    (passed_9 c.args.rules.now c.requires.names c.requires.references c.requires.formulas, found.0, found.1)

pub returns-in-Some-first_too_wide : goal.returns-in-Some-first_too_wide
returns-in-Some-first_too_wide c =
    let low = no_size_found c.args.rules.now 16 (height_of c.args.rules.now) c.in_default.ensures in
    let found = size_found c.args.rules.now 4096 (weight_of c.args.rules.now) c.in-Some-first_too_wide.found c.in-Some-first_too_wide.ensures in
    (passed_10 c.args.rules.now c.requires.names c.requires.references c.requires.formulas low, found.0, found.1)

pub returns : goal.returns
returns c = record {
  known = c.requires.names.known;
  once = c.requires.names.once;
  arity = c.requires.names.arity;
  kinds = c.requires.names.kinds;
  no_cycle = c.requires.references.no_cycle;
  no_glue_in_access = c.requires.references.no_glue_in_access;
  roots = c.requires.formulas.roots;
  formulas = c.requires.formulas.formulas;
  monotone = c.requires.formulas.monotone;
  low = no_size_found c.args.rules.now 16 (height_of c.args.rules.now) c.in_default.ensures;
  narrow = no_size_found c.args.rules.now 4096 (weight_of c.args.rules.now) c.in-None.ensures;
}
