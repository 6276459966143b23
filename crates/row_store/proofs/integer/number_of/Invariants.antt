use Rattle.std.proofs.Common.{◌≡◌, ◌-◌, ◌^◌, take, drop, min}
use Rattle.std.specs.List.{list_all}
use Rattle.star_model.specs.WellFormed.{is_digit}
use Rattle.row_store.proofs.Integers.{spelled}
use Rattle.row_store.proofs.integer.number_of.Given as goal

abbrev pub invariant-loop-digit : goal.invariant-loop-digit
invariant-loop-digit l = record {
  digits : list_all is_digit (drop l.digit-index l.digits) ≡ list_all is_digit l.digits;
  number : l.number ≡ min (spelled (take l.digit-index l.digits)) (2 ^ 64 - 1);
}
