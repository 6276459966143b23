use Rattle.std.proofs.Common.{ap, sym, ◌∙◌, map}
use Rattle.star_model.specs.Vectors.{same_numbers}
use Rattle.star_check.specs.Sizes.{next_weight}
use Rattle.star_check.proofs.Rounds.{first_weights, weight_round, weights_settled}
use Rattle.star_check.proofs.weights.weights.Goals as goal

pub loop-round-init : goal.loop-round-init
loop-round-init c = c.in_ok-weights.ensures ∙ first_weights c.args.rules.now c.as_slice-stars.result.now

pub loop-round-preserved : goal.loop-round-preserved
loop-round-preserved c =
    weight_round
    c.args.rules.now
    c.as_slice-stars.result.now
    c.loop-round._round
    c.loop-round.weights.items
    c.in_ok-next.next.items
    c.requires
    c.as_slice-stars.ensures
    c.loop-round.invariant
    (c.in_ok-next.ensures ∙ ap (λ ws. map (next_weight c.as_slice-stars.result.now ws) c.as_slice-stars.result.now) c.deref.ensures.value)

pub returns-then-are_same : goal.returns-then-are_same
returns-then-are_same c =
    weights_settled
    c.args.rules.now
    c.as_slice-stars.result.now
    c.loop-round._round
    c.loop-round.weights.items
    c.in_ok-next.next.items
    c.requires
    c.as_slice-stars.ensures
    c.loop-round-test.true
    c.loop-round.invariant
    (c.in_ok-next.ensures ∙ ap (λ ws. map (next_weight c.as_slice-stars.result.now ws) c.as_slice-stars.result.now) c.deref.ensures.value)
    (sym ((λ i. same_numbers (c.deref-in-loop-round.ensures.value i) (c.deref-in-loop-round-2.ensures.value i))) ∙ sym c.are_same.ensures ∙ c.if-are_same.true)
