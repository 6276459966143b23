use Rattle.std.proofs.Common.{◌≡◌, map, take}
use Rattle.table_taking.specs.QueryTables.{firsts}
use Rattle.table_taking.proofs.numbers.tables_of.Given as goal

abbrev pub invariant-loop-quant : goal.invariant-loop-quant
invariant-loop-quant l = l.numbers.items ≡ firsts (map (λ d. d.table)
    (take l.quant-index l.query.quants))
