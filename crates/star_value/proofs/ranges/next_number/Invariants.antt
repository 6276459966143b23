use Rattle.std.proofs.Common.{◌≡◌}
use Rattle.star_value.specs.RangeNumbers.{passing, passes, end_of}
use Rattle.star_value.proofs.ranges.next_number.Given as goal

abbrev pub invariant-loop-number : goal.invariant-loop-number
invariant-loop-number l = passing (passes l.query l.over) l.fn.from (end_of l.over) ≡ passing (passes l.query l.over) l.number (end_of l.over)
