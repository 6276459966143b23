-- One more digit of a numeral.
use Rattle.std.proofs.Common.{◌≡◌, ℕ, ◌+◌, ◌-◌, ◌*◌, ◌^◌, ◌<◌, ◌≤◌, List, length, take, get_or, arith}
use Rattle.std.proofs.Math.Nat.{pow-le-pow_right}
use Rattle.std.specs.Str.Parse.{digits_value}
use Rattle.std.proofs.lemmas.Int.Digits.{digits_value_more, digits_value-lt}
use Rattle.std.proofs.lemmas.Str.Parse.{digit_at, digits_value-take-le}
use Rattle.std.proofs.lemmas.Str.{digit_value_digit}
use Rattle.spelling.specs.Cursors.{IsMachineNumber}

pub record NextDigit (ds : List ℕ) (i value : ℕ) : Type 0 where
  pub digit : 48 ≤ get_or ds i 0
  pub so_far : value * 10 + (get_or ds i 0 - 48) ≡ digits_value 10 (take (i + 1) ds)
  pub fits : value * 10 + (get_or ds i 0 - 48) < 2 ^ 64

pub next_digit : (ds : List ℕ) (i value : ℕ) → IsMachineNumber ds → i < length ds → value ≡ digits_value 10 (take i ds) → NextDigit ds i value
next_digit ds i value number lt is =
    let range = digit_at ds i number.numeral.1 lt in
    let digit = digit_value_digit (get_or ds i 0) range in
    let more = digits_value_more 10 ds i lt in
    let more_value : value * 10 + (get_or ds i 0 - 48) ≡ digits_value 10 (take (i + 1) ds) = omega (arith, is, digit, more) in
    let all = digits_value-take-le 10 ds (i + 1) (omega arith) in
    let below = digits_value-lt 10 ds number.numeral.1 in
    let power : 10 ^ length ds ≤ 10 ^ 19 = pow-le-pow_right (omega arith) number.few in
    record { digit = range.0; so_far = more_value; fits = omega (arith, more_value, all, below, power) }
