use Rattle.std.proofs.Common.{◌≡◌, map, take}
use Rattle.star_check.proofs.checked.selects_of.Given as goal

abbrev pub invariant-loop-definition : goal.invariant-loop-definition
invariant-loop-definition l = l.selects ≡ map (λ d. record { class = d.class; num = d.num; den = d.den }) (take l.definition-index l.definitions)
