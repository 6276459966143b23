use Rattle.std.proofs.Common.{◌≡◌, map, take}
use Rattle.query_facts.proofs.indexes.columns_on.Given as goal

abbrev pub invariant-loop-i : goal.invariant-loop-i
invariant-loop-i l = l.found ≡ map (λ c. record { quant = record { 0 = l.quant }; column = c }) (take l.i l.columns)
