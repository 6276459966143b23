use Rattle.std.proofs.Common.{◌∙◌, [], ◌∷◌, ◌++◌, sym, ap, arith, ◌≡◌}
use Rattle.star_model.specs.declared.derivations.Deriv.{Deriv}
use Rattle.star_model.specs.Kinds.{inputs_of}
use Rattle.derivation_reading.proofs.PlaceLaws.{few_of}
use Rattle.derivation_reading.proofs.Piles.{leaf_grows, unary_grows, binary_grows}
use Rattle.derivation_reading.proofs.build.operator.Goals as goal

pub returns-then-count-eq0 : goal.returns-then-count-eq0
returns-then-count-eq0 c = leaf_grows c.args.flavour c.args.pile.now (sym c.inputs_of-count.ensures ∙ c.if-count-eq0.true)

pub returns-then-count-eq1 : goal.returns-then-count-eq1
returns-then-count-eq1 c =
    let was = c.taken.ensures ∙ ap (λ (t : Deriv). c.taken.new.pile ++ t ∷ []) (sym c.in_ok-first.ensures) in
    unary_grows c.args.flavour c.args.pile.now c.taken.new.pile c.in_ok-first.first (sym c.inputs_of-count.ensures ∙ c.if-count-eq1.true) was

pub returns : goal.returns
returns c =
    let was = c.taken.ensures ∙ ap (λ (t : Deriv). c.taken.new.pile ++ t ∷ []) (sym c.in_ok-first.ensures) in
    let was_mid = c.taken-2.ensures ∙ ap (λ (t : Deriv). c.taken-2.new.pile ++ t ∷ []) (sym c.in_ok-second.ensures) in
    let two : inputs_of c.args.flavour ≡ 2 = omega (arith, few_of c.args.flavour, c.inputs_of-count.ensures, c.if-count-eq0.false, c.if-count-eq1.false) in
    binary_grows c.args.flavour c.args.pile.now c.taken.new.pile c.taken-2.new.pile c.in_ok-first.first c.in_ok-second.second two was was_mid
