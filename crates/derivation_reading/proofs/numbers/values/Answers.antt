use Rattle.std.proofs.Common.{◌≡◌, ◌++◌, ◌∷◌, [], ◌∙◌, ap, sym, length, arith, rules}
use Rattle.std.proofs.lemmas.List.{length_push}
use Rattle.spelling.specs.Reading.{a_number}
use Rattle.derivation_reading.specs.StatementReading.{counted, values_at}
use Rattle.derivation_reading.proofs.Loops.{up_to-stops, up_to-fails, up_to-goes, up_to-ends}
use Rattle.derivation_reading.proofs.numbers.values.Goals as goal

pub returns-in_default : goal.returns-in_default
unfolding values_at
returns-in_default c =
    rw c.in_default.ensures.stays (c.loop-turn.invariant.left ∙ up_to-stops a_number counted 2 c.loop-turn.turn c.loop-turn.values c.loop-turn.cursor c.loop-turn-test.true c.in_default.ensures.reads)

pub returns-in_err-value : goal.returns-in_err-value
unfolding values_at
returns-in_err-value c =
    rw c.from_residual.ensures (c.loop-turn.invariant.left ∙ up_to-fails a_number counted 2 c.loop-turn.turn c.loop-turn.values _ _ _ c.loop-turn-test.true c.in-Some.ensures.reads (sym c.in_err-value.ensures))

pub loop-turn-preserved : goal.loop-turn-preserved
unfolding values_at
loop-turn-preserved c =
    let pushed : c.try_push-pushed.new.self ≡ c.loop-turn.values ++ c.in_ok-value.value ∷ [] = search rules in
    record {
      left = c.loop-turn.invariant.left ∙ up_to-goes a_number counted 2 c.loop-turn.turn c.loop-turn.values _ _ _ _ _ c.loop-turn-test.true c.in-Some.ensures.reads (sym c.in_ok-value.ensures) pushed;
      few = omega (arith, c.loop-turn.invariant.few, ap length pushed, length_push c.loop-turn.values c.in_ok-value.value);
    }

pub returns : goal.returns
unfolding values_at
returns c = c.loop-turn.invariant.left ∙ up_to-ends a_number counted 2 c.loop-turn.turn c.loop-turn.values c.loop-turn.cursor c.loop-turn-test.false
