use Rattle.std.proofs.Common.{◌≡◌, ◌≤◌, ◌++◌, map, drop, Some}
use Rattle.star_model.specs.Data.{integer_in, field_at}
use Rattle.row_store.proofs.numbers.integers_at.Given as goal

abbrev pub invariant-loop-row : goal.invariant-loop-row
invariant-loop-row l = record {
  from_1 : 1 ≤ l.row;
  rest : map (λ integer. Some integer) l.integers.items ++ map (λ fields. integer_in (field_at fields l.place)) (drop l.row l.raw)
      ≡ map (λ fields. integer_in (field_at fields l.place)) (drop 1 l.raw);
}
