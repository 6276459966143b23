-- How the logic stores derived plans.
use Rattle.std.specs.Prelude.{refl}
use Rattle.std.specs.Coded.{Coded, code_by, coded×}
use Rattle.star_model.specs.contracts.derivations.Deriv as the_deriv
use Rattle.star_model.specs.declared.derivations.Deriv.{Deriv}
use Rattle.lolepop.specs.PlanTrees.{PlanTree}
use Rattle.lolepop.specs.PlanTreeCode.{tree_code}
use Rattle.lolepop.specs.Derived.{DerivedPlan}

abbrev pub derived_code : Coded DerivedPlan
derived_code = code_by (PlanTree × Deriv) (coded× tree_code the_deriv.the_row.coded) (λ e. (e.tree, e.deriv)) (λ p. record { tree = p.0; deriv = p.1 }) (λ _. refl)
