use Rattle.std.proofs.Common.{◌≡◌, ◌++◌, map, drop, Some}
use Rattle.row_store.specs.Numbers.{integers_in}
use Rattle.row_store.proofs.numbers.numbers_of.Given as goal

abbrev pub invariant-loop-column : goal.invariant-loop-column
invariant-loop-column l =
    map (λ integers. map (λ integer. Some integer) integers.items) l.numbers.items ++ map (integers_in (drop 1 l.raw)) (drop l.column-index l.columns)
    ≡ map (integers_in (drop 1 l.raw)) l.columns
