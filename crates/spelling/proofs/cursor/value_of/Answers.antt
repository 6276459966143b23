use Rattle.std.proofs.Common.{arith}
use Rattle.spelling.proofs.Numerals.{next_digit}
use Rattle.spelling.proofs.cursor.value_of.Goals as goal

pub overflow_mul-value : goal.overflow_mul-value
overflow_mul-value c =
    let next = next_digit c.args.digits.now c.loop-digit.digit-index c.loop-digit.value c.requires c.loop-digit-test.true c.loop-digit.invariant in
    omega (arith, next.fits)

pub overflow_sub-digit : goal.overflow_sub-digit
overflow_sub-digit c =
    (next_digit c.args.digits.now c.loop-digit.digit-index c.loop-digit.value c.requires c.loop-digit-test.true c.loop-digit.invariant).digit

pub overflow_add-value : goal.overflow_add-value
overflow_add-value c =
    let next = next_digit c.args.digits.now c.loop-digit.digit-index c.loop-digit.value c.requires c.loop-digit-test.true c.loop-digit.invariant in
    omega (arith, next.fits, c.from.ensures)

pub loop-digit-preserved : goal.loop-digit-preserved
loop-digit-preserved c =
    let next = next_digit c.args.digits.now c.loop-digit.digit-index c.loop-digit.value c.requires c.loop-digit-test.true c.loop-digit.invariant in
    rw c.from.ensures next.so_far
