use Rattle.std.proofs.Common.{◌≡◌, ◌++◌, ◌∷◌, [], ◌∙◌, ap, sym, length, arith, rules}
use Rattle.std.proofs.lemmas.List.{length_push}
use Rattle.spelling.specs.Reading.{a_word}
use Rattle.derivation_reading.specs.StatementReading.{glue_operator, chain_at}
use Rattle.derivation_reading.proofs.Loops.{up_to-stops, up_to-fails, up_to-goes, up_to-ends}
use Rattle.derivation_reading.proofs.chains.chain.Goals as goal

pub returns-in_default : goal.returns-in_default
unfolding chain_at
returns-in_default c =
    rw c.in_default.ensures.stays (c.loop-turn.invariant.left ∙ up_to-stops a_word glue_operator 3 c.loop-turn.turn c.loop-turn.chain c.loop-turn.cursor c.loop-turn-test.true c.in_default.ensures.reads)

pub returns-in_err-operator : goal.returns-in_err-operator
unfolding chain_at
returns-in_err-operator c =
    rw c.from_residual.ensures (c.loop-turn.invariant.left ∙ up_to-fails a_word glue_operator 3 c.loop-turn.turn c.loop-turn.chain _ _ _ c.loop-turn-test.true c.in-Some.ensures.reads (sym c.in_err-operator.ensures))

pub loop-turn-preserved : goal.loop-turn-preserved
unfolding chain_at
loop-turn-preserved c =
    let pushed : c.try_push-pushed.new.self ≡ c.loop-turn.chain ++ c.in_ok-operator.operator ∷ [] = search rules in
    record {
      left = c.loop-turn.invariant.left ∙ up_to-goes a_word glue_operator 3 c.loop-turn.turn c.loop-turn.chain _ _ _ _ _ c.loop-turn-test.true c.in-Some.ensures.reads (sym c.in_ok-operator.ensures) pushed;
      few = omega (arith, c.loop-turn.invariant.few, ap length pushed, length_push c.loop-turn.chain c.in_ok-operator.operator);
    }

pub returns : goal.returns
unfolding chain_at
returns c = c.loop-turn.invariant.left ∙ up_to-ends a_word glue_operator 3 c.loop-turn.turn c.loop-turn.chain c.loop-turn.cursor c.loop-turn-test.false
