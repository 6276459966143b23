use Rattle.std.proofs.Common.{◌∙◌, [], ◌∷◌, ◌++◌, sym, ap}
use Rattle.star_model.specs.declared.derivations.Deriv.{Deriv}
use Rattle.derivation_reading.proofs.Piles.{glue_grows, goal_grows, reference_grows}
use Rattle.derivation_reading.proofs.build.grown.Goals as goal

pub returns-in_ok-goal-in-Glue : goal.returns-in_ok-goal-in-Glue
returns-in_ok-goal-in-Glue c =
    let was = c.taken.ensures ∙ ap (λ (t : Deriv). c.taken.new.pile ++ t ∷ []) (sym c.in_ok-goal-in-Glue.ensures) in
    rw c.in-Glue.is (glue_grows c.in-Glue.chain c.args.pile.now c.taken.new.pile c.in_ok-goal-in-Glue.goal was)

pub returns-in_ok-body-in-Goal : goal.returns-in_ok-body-in-Goal
returns-in_ok-body-in-Goal c =
    let was = c.taken-in-Goal.ensures ∙ ap (λ (t : Deriv). c.taken-in-Goal.new.pile ++ t ∷ []) (sym c.in_ok-body-in-Goal.ensures) in
    rw c.in-Goal.is (goal_grows c.in-Goal.goal c.in-Goal.split c.args.pile.now c.taken-in-Goal.new.pile c.in_ok-body-in-Goal.body was)

pub returns-in_ok-body-in-Reference : goal.returns-in_ok-body-in-Reference
returns-in_ok-body-in-Reference c =
    let was = c.taken-in-Reference.ensures ∙ ap (λ (t : Deriv). c.taken-in-Reference.new.pile ++ t ∷ []) (sym c.in_ok-body-in-Reference.ensures) in
    rw c.in-Reference.is
    (reference_grows c.in-Reference.star c.in-Reference.alternative c.in-Reference.values c.args.pile.now c.taken-in-Reference.new.pile c.in_ok-body-in-Reference.body was)
