use Rattle.std.proofs.Common.{arith, ap, ◌∙◌, List, ◌++◌, append-nil, ℕ}
use Rattle.star_model.specs.declared.values.RuleValue.{RuleValue}
use Rattle.plan_check.proofs.Members.{member_found, member_missed}
use Rattle.plan_check.proofs.bindings.member.Goals as goal

pub returns-then-from-number : goal.returns-then-from-number
returns-then-from-number c =
    member_found c.args.query.now c.args.env.now c.args.range.now c.args.number c.in-Some.place c.in-Some.member c.loop-place.yielded c.next.new.self
    (c.loop-place.invariant.all ∙ ap (λ (ps : List (ℕ × RuleValue)). c.loop-place.yielded ++ ps) c.in-Some.ensures.steps)
    (let h = c.if-from-number.true in let e = c.from.ensures in omega (arith, h, e))

pub returns : goal.returns
returns c =
    member_missed c.args.query.now c.args.env.now c.args.range.now c.args.number c.loop-place.yielded
    (c.loop-place.invariant.all ∙ ap (λ (ps : List (ℕ × RuleValue)). c.loop-place.yielded ++ ps) c.in-None.ensures.steps.0 ∙ append-nil c.loop-place.yielded)
    c.loop-place.invariant.none
