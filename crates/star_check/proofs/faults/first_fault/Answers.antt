use Rattle.star_check.specs.Passing.{NamesPass}
use Rattle.star_check.proofs.Orders.{passes_none}
use Rattle.star_check.proofs.Owned.{names_are_own, names_are_known}
use Rattle.star_check.proofs.Formulas.{few_nodes}
use Rattle.star_check.proofs.faults.first_fault.Goals as goal

pub fault_of_formulas-requires-clause-few : goal.fault_of_formulas-requires-clause-few
fault_of_formulas-requires-clause-few c = few_nodes c.args.rules.now.version c.args.rules.now.formulas c.requires.formulas

pub fault_of_references-requires-clause-own : goal.fault_of_references-requires-clause-own
fault_of_references-requires-clause-own c =
    let names = passes_none c.args.rules.now (NamesPass c.args.rules.now) c.in_ok-fault.field-0 c.in_ok-fault.ensures c.in_default.is in
    names_are_own c.args.rules.now c.requires names.once

pub fault_of_sizes-requires-clause-own : goal.fault_of_sizes-requires-clause-own
fault_of_sizes-requires-clause-own c =
    let names = passes_none c.args.rules.now (NamesPass c.args.rules.now) c.in_ok-fault.field-0 c.in_ok-fault.ensures c.in_default.is in
    names_are_own c.args.rules.now c.requires names.once

pub fault_of_sizes-requires-clause-known : goal.fault_of_sizes-requires-clause-known
fault_of_sizes-requires-clause-known c =
    let names = passes_none c.args.rules.now (NamesPass c.args.rules.now) c.in_ok-fault.field-0 c.in_ok-fault.ensures c.in_default.is in
    names_are_known c.args.rules.now names.known
