use Rattle.std.proofs.Common.{arith, ap, sym, ◌∙◌, ℕ, List, subst}
use Rattle.star_model.specs.Expected.{Expression, Call}
use Rattle.star_model.specs.Judging.{node_count}
use Rattle.star_model.specs.JudgingEquations.{node_count-Goal}
use Rattle.plan_check.specs.Places.{IsPlace}
use Rattle.plan_check.proofs.Nodes.{some_node}
use Rattle.plan_check.proofs.Places.{input_is_place, inputs_are_places, body_is_place, call_is_place, root_is_place, goal_is_place}
use Rattle.plan_check.proofs.Small.{few_values}
use Rattle.plan_check.proofs.judging.+judging.Goals as goal

-- ---- operators

pub judge_unary-overflow_add-node : goal.judge_unary-overflow_add-node
judge_unary-overflow_add-node t c = let some = some_node c.args.input.now in let room = c.requires.room in omega (arith, some, room)

pub judge_unary-judge_expression-requires : goal.judge_unary-judge_expression-requires
judge_unary-judge_expression-requires t c =
    let place =
    input_is_place c.args.basis.now.rules.now c.args.basis.now.query.now c.args.flavour c.args.expr.now c.args.env.now c.in-Some.op (Expression c.in-Some.part.now c.args.env.now) c.stands.ensures.accepted
    c.requires.place (sym c.in-Some.ensures) in
    (omega (arith, c.decreases), (c.requires.query, (place, c.requires.room)))

pub judge_binary-overflow_add-node : goal.judge_binary-overflow_add-node
judge_binary-overflow_add-node t c = let some = some_node c.args.left.now in let room = c.requires.room in omega (arith, some, room)

pub judge_binary-judge_expression-requires : goal.judge_binary-judge_expression-requires
judge_binary-judge_expression-requires t c =
    let env = c.args.env.now in
    let places =
    inputs_are_places c.args.basis.now.rules.now c.args.basis.now.query.now c.args.flavour c.args.expr.now env c.in-Some.op (Expression c.in-Some.first.now env) (Expression c.in-Some.second.now env)
    c.stands.ensures.accepted c.requires.place (sym c.in-Some.ensures) in
    let room = c.requires.room in
    (omega (arith, c.decreases), (c.requires.query, (places.0, omega (arith, room))))

pub judge_binary-overflow_add-before : goal.judge_binary-overflow_add-before
judge_binary-overflow_add-before t c =
    let some = some_node c.args.right.now in let room = c.requires.room in let last = c.in-Ok.ensures.1 in omega (arith, some, room, last)

pub judge_binary-judge_expression-requires-in-Ok : goal.judge_binary-judge_expression-requires-in-Ok
judge_binary-judge_expression-requires-in-Ok t c =
    let env = c.args.env.now in
    let places =
    inputs_are_places c.args.basis.now.rules.now c.args.basis.now.query.now c.args.flavour c.args.expr.now env c.in-Some.op (Expression c.in-Some.first.now env) (Expression c.in-Some.second.now env)
    c.stands.ensures.accepted c.requires.place (sym c.in-Some.ensures) in
    let room = c.requires.room in
    let last = c.in-Ok.ensures.1 in
    (omega (arith, c.decreases), (c.requires.query, (places.1, omega (arith, room, last))))

-- ---- references

pub judge_reference-judge_body-requires : goal.judge_reference-judge_body-requires
judge_reference-judge_body-requires t c =
    let rules = c.args.basis.now.rules.now in
    let place =
    call_is_place rules c.args.basis.now.query.now c.args.expr.now c.args.env.now c.in-Some.star.now c.in-Some.call c.stands.ensures.accepted c.requires.place (sym c.in-Some.ensures) in
    (omega (arith, c.decreases), (c.requires.query, (subst (λ (letters : List ℕ). IsPlace rules (Call letters c.in-Some.call)) (sym c.as_slice.ensures) place, c.requires.room)))

pub judge_body-reference_body-requires-clause-room : goal.judge_body-reference_body-requires-clause-room
judge_body-reference_body-requires-clause-room t c = few_values c.args.basis.now.rules.now c.args.letters.now c.args.call c.stands.ensures.formed c.requires.place

pub judge_body-overflow_add-node : goal.judge_body-overflow_add-node
judge_body-overflow_add-node t c = let some = some_node c.args.body.now in let room = c.requires.room in omega (arith, some, room)

pub judge_body-judge_expression-requires : goal.judge_body-judge_expression-requires
judge_body-judge_expression-requires t c =
    let referred = c.args.referred.now in
    let place =
    body_is_place c.args.basis.now.rules.now c.args.basis.now.query.now referred.star.now c.args.letters.now referred.alternative referred.values.now c.args.call (Expression c.in-Some.expr.now c.in-Some.env)
    c.stands.ensures.accepted c.requires.place (sym c.in-Some.ensures) in
    (omega (arith, c.decreases), (c.requires.query, (place, c.requires.room)))

-- ---- goals and Glue

pub judge_goal-overflow_add-node : goal.judge_goal-overflow_add-node
judge_goal-overflow_add-node t c =
    let count = ap node_count c.in-Goal.is ∙ node_count-Goal c.in-Goal.goal c.in-Goal.split c.in-Goal.body in
    let some = some_node c.in-Goal.body in
    let room = c.requires.room in
    omega (arith, count, some, room)

pub judge_goal-judge_call-requires : goal.judge_goal-judge_call-requires
judge_goal-judge_call-requires t c =
    let count = ap node_count c.in-Goal.is ∙ node_count-Goal c.in-Goal.goal c.in-Goal.split c.in-Goal.body in
    let same = ap node_count c.get.ensures in
    let room = c.requires.room in
    let place =
    root_is_place c.args.basis.now.rules.now c.args.basis.now.query.now c.in-Goal.goal c.in-Goal.split c.args.wanted.tables c.args.wanted.pushed (Call c.in-Some.letters.now c.in-Some.call)
    c.stands.ensures.accepted c.requires.place (sym c.in-Some.ensures) in
    (omega (arith, c.decreases, count, same), (c.requires.query, (place, omega (arith, count, same, room))))

pub judge_chain-overflow_add-node : goal.judge_chain-overflow_add-node
judge_chain-overflow_add-node t c = let some = some_node c.args.goal.now in let room = c.requires.room in omega (arith, some, room)

pub judge_glue-judge_chain-requires : goal.judge_glue-judge_chain-requires
judge_glue-judge_chain-requires t c =
    let wanted = c.in-Some.wanted in
    let place =
    goal_is_place c.args.basis.now.rules.now c.args.basis.now.query.now c.args.expr.now c.args.env.now c.in-Some.require wanted.tables wanted.pushed c.stands.ensures.accepted c.requires.place
    (sym c.in-Some.ensures) in
    (omega (arith, c.decreases), (c.requires.query, (place, c.requires.room)))
