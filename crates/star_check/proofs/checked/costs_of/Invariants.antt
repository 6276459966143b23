use Rattle.std.proofs.Common.{◌≡◌, map, take}
use Rattle.star_check.proofs.checked.costs_of.Given as goal

abbrev pub invariant-loop-definition : goal.invariant-loop-definition
invariant-loop-definition l =
    l.costs ≡ map (λ d. record { flavour = d.flavour; which = d.which; formula = d.formula }) (take l.definition-index l.formulas)
