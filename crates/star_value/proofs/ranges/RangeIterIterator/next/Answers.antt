use Rattle.std.proofs.Common.{◌∙◌, ◌∷◌, ◌+◌, ◌<◌, ◌≤◌, arith, ap, sym, length}
use Rattle.star_value.specs.RangeNumbers.{end_of, members_from}
use Rattle.star_value.proofs.RangeLaws.{first_member, none_left, none_after}
use Rattle.star_value.proofs.ranges.RangeIterIterator.next.Goals as goal

pub returns-then-number-end-clause-steps : goal.returns-then-number-end-clause-steps
returns-then-number-end-clause-steps c =
    let it = c.self.inside in
    let number = c.next_number-number.result in
    let below : number < end_of it.over = omega (arith, c.if-number-end.true, c.end.ensures) in
    sym c.self.view_is ∙ first_member it.query.now it.over it.next number c.next_number-number.ensures below
    ∙ ap (λ v. v ∷ members_from it.query.now it.over (number + 1)) (sym c.member.ensures)

pub returns-else-number-end-clause-steps : goal.returns-else-number-end-clause-steps
returns-else-number-end-clause-steps c =
    let it = c.self.inside in
    let number = c.next_number-number.result in
    let beyond : end_of it.over ≤ number = omega (arith, c.if-number-end.false, c.end.ensures) in
    (sym c.self.view_is ∙ none_left it.query.now it.over it.next number c.next_number-number.ensures beyond, none_after it.query.now it.over number beyond)

pub returns-then-number-end-clause-goes : goal.returns-then-number-end-clause-goes
returns-then-number-end-clause-goes c =
    let shorter = ap length (returns-then-number-end-clause-steps c) in
    record { on = λ h. (tt, tt, omega (arith, shorter)); keeps = tt; rests = λ h. tt }
