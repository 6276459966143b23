use Rattle.std.proofs.Common.{◌≤◌, List, length, subst, ap, ◌∙◌, sym, map, arith}
use Rattle.star_model.specs.Vectors.{same_numbers}
use Rattle.star_model.specs.declared.rules.StarDef.{StarDef}
use Rattle.star_check.specs.Sizes.{next_height}
use Rattle.star_check.proofs.Rounds.{first_heights, height_round, heights_settled, low_heights}
use Rattle.star_check.proofs.heights.heights.Goals as goal

pub loop-round-init : goal.loop-round-init
loop-round-init c = c.in_ok-heights.ensures ∙ first_heights c.args.rules.now c.as_slice-stars.result.now

pub next_heights-requires-clause-low : goal.next_heights-requires-clause-low
next_heights-requires-clause-low c =
    let stars = c.as_slice-stars.ensures in
    let few : length c.as_slice-stars.result.now ≤ 64 = subst (λ (xs : List StarDef). length xs ≤ 64) (sym stars) c.requires.few in
    let round : c.loop-round._round ≤ 64 = omega (arith, few, c.loop-round-test.true) in
    low_heights c.args.rules.now c.as_slice-stars.result.now c.loop-round._round c.deref.result.now round (c.deref.ensures.value ∙ c.loop-round.invariant)

pub loop-round-preserved : goal.loop-round-preserved
loop-round-preserved c =
    height_round
    c.args.rules.now
    c.as_slice-stars.result.now
    c.loop-round._round
    c.loop-round.heights.items
    c.in_ok-next.next.items
    c.requires.own
    c.requires.known
    c.as_slice-stars.ensures
    c.loop-round.invariant
    (c.in_ok-next.ensures ∙ ap (λ hs. map (next_height c.as_slice-stars.result.now hs) c.as_slice-stars.result.now) c.deref.ensures.value)

pub returns-then-are_same : goal.returns-then-are_same
returns-then-are_same c =
    heights_settled
    c.args.rules.now
    c.as_slice-stars.result.now
    c.loop-round._round
    c.loop-round.heights.items
    c.in_ok-next.next.items
    c.requires.own
    c.requires.known
    c.as_slice-stars.ensures
    c.loop-round-test.true
    c.loop-round.invariant
    (c.in_ok-next.ensures ∙ ap (λ hs. map (next_height c.as_slice-stars.result.now hs) c.as_slice-stars.result.now) c.deref.ensures.value)
    (sym ((λ i. same_numbers (c.deref-in-loop-round.ensures.value i) (c.deref-in-loop-round-2.ensures.value i))) ∙ sym c.are_same.ensures ∙ c.if-are_same.true)
