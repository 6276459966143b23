use Rattle.std.proofs.Common.{List, subst, sym}
use Rattle.std.specs.Prelude.{Option}
use Rattle.star_model.specs.Accepted.{IsAccepted}
use Rattle.star_model.specs.declared.rules.FormulaDef.{FormulaDef}
use Rattle.star_model.specs.declared.rules.SelectDef.{SelectDef}
use Rattle.star_model.specs.declared.faults.RuleFault.{RuleFault}
use Rattle.star_check.specs.Checking.{IsFirstFault}
use Rattle.star_check.specs.Owning.{FormulasAreOwn, SelectsAreOwn}
use Rattle.star_check.proofs.Owned.{formulas_are_own, selects_are_own}
use Rattle.star_check.proofs.checked.check_rules.Goals as goal

pub costs_of-requires : goal.costs_of-requires
costs_of-requires c =
    let accepted : IsAccepted c.args.rules = subst (λ (fault : Option RuleFault). IsFirstFault c.args.rules fault) c.in_default.is c.in_ok-fault.ensures in
    subst (λ (ds : List FormulaDef). FormulasAreOwn ds) (sym c.as_slice.ensures) (formulas_are_own c.args.rules c.requires accepted.once)

pub selects_of-requires : goal.selects_of-requires
selects_of-requires c =
    let accepted : IsAccepted c.args.rules = subst (λ (fault : Option RuleFault). IsFirstFault c.args.rules fault) c.in_default.is c.in_ok-fault.ensures in
    subst (λ (ds : List SelectDef). SelectsAreOwn ds) (sym c.as_slice-2.ensures) (selects_are_own c.args.rules c.requires accepted.once)
