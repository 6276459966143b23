use Rattle.std.proofs.Common.{arith, sym, ap, ◌∙◌, List, [], length, subst}
use Rattle.star_model.specs.Expected.{Call, Expression, values_of}
use Rattle.dominance_prune.specs.Gathering.{Gathers}
use Rattle.lolepop.specs.Derived.{DerivedPlan, is_better_plan}
use Rattle.exchange.specs.Places.{IsBestOf}
use Rattle.exchange.proofs.Laws.{accepted_pass, body_exchange}
use Rattle.search_places.proofs.Laws.{input_part, left_part, right_part, reference_part, few_arguments, few_alternatives, member_bound, to_body, body_is_lower, reference_there}
use Rattle.star_search.proofs.Sharing.{copied_so, lent_so}
use Rattle.star_search.proofs.OperatorSets.{leaf_done, unary_done, binary_done, binary_none, reference_done}
use Rattle.star_search.proofs.Ranges.{member_more, members_done}
use Rattle.star_search.proofs.Alternatives.{FirstWays, next_alternative, none_seen, one_seen, all_seen, none_called}
use Rattle.star_search.proofs.bodies.+search.Goals as goal
use Rattle.star_search.proofs.bodies.+search.Goals.{plans_of_call-in-Some+else-loop-index-test, plans_of_call-in_default}

-- ---- a body

pub add_body-plans_of-requires : goal.add_body-plans_of-requires
add_body-plans_of-requires t c =
    let s = c.args.search.now in
    let part = c.args.part.now in
    let lower = body_is_lower s.rules.now part.star.now part.number part.alternative.now c.stands.ensures.formed c.stands.ensures.accepted c.requires.within.found in (
      omega (arith, c.decreases, lower),
      (c.requires.open, (to_body s part.star.now part.number part.alternative.now c.args.picked.now c.args.env.now c.requires.within (sym c.meets.ensures ∙ c.if-meets.true), c.requires.shared)),
    )

pub add_body-returns-in_ok-add_references-clause-gathered : goal.add_body-returns-in_ok-add_references-clause-gathered
add_body-returns-in_ok-add_references-clause-gathered t c =
    let s = c.args.search.now in
    let part = c.args.part.now in
    let best = lent_so c.in_ok-plans.plans (IsBestOf s.query.now s.rules.now (Expression part.alternative.now.body c.args.env.now)) c.get.result.now c.get.ensures c.in_ok-plans.ensures.best in
    body_exchange s.query.now s.rules.now part.star.now part.number part.alternative.now c.args.picked.now c.args.env.now c.get.result.now c.args.out.now c.add_references.new.out
    (sym c.meets.ensures ∙ c.if-meets.true) best c.in_ok-add_references.ensures

-- ---- the members of a range

pub add_members-add_ranges-requires : goal.add_members-add_ranges-requires
add_members-add_ranges-requires t c =
    let s = c.args.search.now in
    let part = c.args.part.now in (
      omega (arith, c.decreases),
      (
        c.requires.open,
        (
          member_bound s part.star.now part.number part.alternative.now c.args.first.now c.args.more.now c.args.picked.now c.args.env.now c.requires.within c.loop-number.yielded c.loop-number.number-iterator
              c.next.new.self c.in-Some.number c.in-Some.member c.with_number-numbers.result c.with_value-next.result c.loop-number.invariant.passes.all c.in-Some.ensures.steps c.with_number-numbers.ensures
              c.with_value-next.ensures,
          c.loop-number.invariant.shared,
        ),
      ),
    )

pub add_members-loop-number-preserved : goal.add_members-loop-number-preserved
add_members-loop-number-preserved t c =
    let s = c.args.search.now in
    let part = c.args.part.now in
    record {
      passes = member_more s.query.now s.rules.now part.star.now part.number part.alternative.now c.args.more.now c.args.picked.now c.args.env.now c.args.first.now c.loop-number.yielded c.loop-number.number-iterator
          c.next.new.self c.in-Some.number c.in-Some.member c.with_number-numbers.result c.with_value-next.result c.args.out.now c.loop-number.out c.add_ranges.new.out c.loop-number.invariant.passes c.in-Some.ensures.steps
          c.with_number-numbers.ensures c.with_value-next.ensures c.in_ok-add_ranges.ensures.gathered;
      shared = c.in_ok-add_ranges.ensures.shared;
    }

pub add_members-returns-clause-gathered : goal.add_members-returns-clause-gathered
add_members-returns-clause-gathered t c =
    let s = c.args.search.now in
    let part = c.args.part.now in
    members_done s.query.now s.rules.now part.star.now part.number part.alternative.now c.args.more.now c.args.picked.now c.args.env.now c.args.first.now c.loop-number.yielded c.loop-number.number-iterator
    c.args.out.now c.loop-number.out c.loop-number.invariant.passes c.in-None.ensures.steps.0

-- ---- expressions

pub plans_of-plans_of-requires : goal.plans_of-plans_of-requires
plans_of-plans_of-requires t c =
    let part = input_part c.args.search.now c.args.expr.now c.in-Unary.flavour c.in-Unary.args c.in-Unary.input c.get.result.now c.args.env.now c.in-Unary.is c.get.ensures c.requires.leads in
    (omega (arith, c.decreases, part.0), (c.requires.open, (part.1, c.requires.shared)))

pub plans_of-plans_of-requires-in-Binary : goal.plans_of-plans_of-requires-in-Binary
plans_of-plans_of-requires-in-Binary t c =
    let part = left_part c.args.search.now c.args.expr.now c.in-Binary.flavour c.in-Binary.args c.in-Binary.left c.in-Binary.right c.get-in-Binary.result.now c.args.env.now c.in-Binary.is c.get-in-Binary.ensures
    c.requires.leads in
    (omega (arith, c.decreases, part.0), (c.requires.open, (part.1, c.requires.shared)))

pub plans_of-plans_of-requires-in-Binary-2 : goal.plans_of-plans_of-requires-in-Binary-2
plans_of-plans_of-requires-in-Binary-2 t c =
    let part = right_part c.args.search.now c.args.expr.now c.in-Binary.flavour c.in-Binary.args c.in-Binary.left c.in-Binary.right c.get-in-Binary-3.result.now c.args.env.now c.in-Binary.is
    c.get-in-Binary-3.ensures c.requires.leads in
    (omega (arith, c.decreases, part.0), (c.requires.open, (part.1, c.in_ok-lefts-in-Binary.ensures.shared)))

pub plans_of-values-values-requires-clause-few : goal.plans_of-values-values-requires-clause-few
plans_of-values-values-requires-clause-few t c =
    let few = few_arguments c.args.search.now c.args.expr.now c.in-Reference.star c.in-Reference.args c.args.env.now c.stands.ensures.formed c.stands.ensures.accepted c.requires.open.goal c.in-Reference.is
    c.requires.leads in
    let same = ap length c.as_slice-in-Reference.ensures in
    omega (arith, few, same)

pub plans_of-plans_of_reference-requires : goal.plans_of-plans_of_reference-requires
plans_of-plans_of_reference-requires t c =
    let s = c.args.search.now in
    let part = reference_part s c.args.expr.now c.in-Reference.star c.in-Reference.args c.args.env.now c.values-values.result c.in-Reference.is
    (c.values-values.ensures ∙ ap (values_of s.query.now c.args.env.now) c.as_slice-in-Reference.ensures) c.requires.leads in
    (omega (arith, c.decreases, part.0), (c.requires.open, (part.1, c.requires.shared)))

pub plans_of-returns-in-Leaf-clause-best : goal.plans_of-returns-in-Leaf-clause-best
plans_of-returns-in-Leaf-clause-best t c =
    let s = c.args.search.now in
    leaf_done s.query.now s.rules.now c.args.expr.now c.in-Leaf.flavour c.in-Leaf.args c.as_slice.result.now c.args.env.now c.as_slice.ensures c.over_nothing.result c.in-Leaf.is c.over_nothing.ensures

pub plans_of-returns-in_ok-inputs-in-Unary-clause-best : goal.plans_of-returns-in_ok-inputs-in-Unary-clause-best
plans_of-returns-in_ok-inputs-in-Unary-clause-best t c =
    let s = c.args.search.now in
    let inputs = lent_so c.in_ok-inputs-in-Unary.inputs (IsBestOf s.query.now s.rules.now (Expression c.get.result.now c.args.env.now)) c.get-in-Unary.result.now c.get-in-Unary.ensures c.in_ok-inputs-in-Unary.ensures.best in
    unary_done s.query.now s.rules.now c.args.expr.now c.in-Unary.flavour c.in-Unary.args c.as_slice-in-Unary.result.now c.args.env.now c.as_slice-in-Unary.ensures
    (accepted_pass s.rules.now c.stands.ensures.accepted) c.in-Unary.input c.get.result.now c.get-in-Unary.result.now c.over_one.result c.in-Unary.is c.get.ensures inputs c.over_one.ensures

pub plans_of-returns-then-len-eq0-clause-best : goal.plans_of-returns-then-len-eq0-clause-best
plans_of-returns-then-len-eq0-clause-best t c =
    let s = c.args.search.now in
    binary_none s.query.now s.rules.now c.args.expr.now c.in-Binary.flavour c.in-Binary.args c.in-Binary.left c.in-Binary.right c.get-in-Binary.result.now c.args.env.now c.in_ok-lefts-in-Binary.lefts c.in-Binary.is
    c.get-in-Binary.ensures c.in_ok-lefts-in-Binary.ensures.best (ap length (sym c.get-in-Binary-2.ensures) ∙ sym c.len.ensures ∙ c.if-len-eq0.true)

pub plans_of-returns-in_ok-rights-in-Binary-clause-best : goal.plans_of-returns-in_ok-rights-in-Binary-clause-best
plans_of-returns-in_ok-rights-in-Binary-clause-best t c =
    let s = c.args.search.now in
    let lefts = lent_so c.in_ok-lefts-in-Binary.lefts (IsBestOf s.query.now s.rules.now (Expression c.get-in-Binary.result.now c.args.env.now)) c.get-lefts.result.now c.get-lefts.ensures c.in_ok-lefts-in-Binary.ensures.best in
    let rights = lent_so c.in_ok-rights-in-Binary.rights (IsBestOf s.query.now s.rules.now (Expression c.get-in-Binary-3.result.now c.args.env.now)) c.get-rights.result.now c.get-rights.ensures c.in_ok-rights-in-Binary.ensures.best in
    binary_done s.query.now s.rules.now c.args.expr.now c.in-Binary.flavour c.in-Binary.args c.as_slice-in-Binary.result.now c.args.env.now c.as_slice-in-Binary.ensures
    (accepted_pass s.rules.now c.stands.ensures.accepted) c.in-Binary.left c.in-Binary.right c.get-in-Binary.result.now c.get-in-Binary-3.result.now c.get-lefts.result.now c.get-rights.result.now
    c.over_two.result c.in-Binary.is c.get-in-Binary.ensures c.get-in-Binary-3.ensures lefts rights c.over_two.ensures

pub plans_of-returns-in-Reference-clause-best : goal.plans_of-returns-in-Reference-clause-best
plans_of-returns-in-Reference-clause-best t c =
    let s = c.args.search.now in
    reference_done s.query.now s.rules.now c.args.expr.now c.in-Reference.star c.in-Reference.args c.as_slice-in-Reference.result.now c.args.env.now c.values-values.result c.plans_of_reference.result c.in-Reference.is
    c.as_slice-in-Reference.ensures c.values-values.ensures c.plans_of_reference.ensures.best

-- ---- references

pub plans_of_reference-returns-in-Some-clause-best : goal.plans_of_reference-returns-in-Some-clause-best
plans_of_reference-returns-in-Some-clause-best t c =
    let s = c.args.search.now in
    copied_so c.in-Some.plans.now (IsBestOf s.query.now s.rules.now (Call c.args.star.now c.args.env.now)) c.clone.result _
    (reference_there s.query.now s.rules.now c.args.tables.now.references c.args.star.now c.args.env.now c.in-Some.plans.now c.requires.shared.references c.in-Some.ensures) c.clone.ensures.cases

-- ---- calls

pub plans_of_call-overflow_cast-part : goal.plans_of_call-overflow_cast-part
plans_of_call-overflow_cast-part t c =
    let few = few_alternatives c.args.search.now.rules.now c.args.star.now c.in-Some.found.now c.stands.ensures.formed (sym c.in-Some.ensures) in
    let same = ap length c.as_slice-alternative-items.ensures in
    omega (arith, few, same, c.loop-index-test.true)

pub plans_of_call-overflow_add-part : goal.plans_of_call-overflow_add-part
plans_of_call-overflow_add-part t c =
    let few = few_alternatives c.args.search.now.rules.now c.args.star.now c.in-Some.found.now c.stands.ensures.formed (sym c.in-Some.ensures) in
    let same = ap length c.as_slice-alternative-items.ensures in
    omega (arith, few, same, c.loop-index-test.true)

pub plans_of_call-add_ranges-requires : goal.plans_of_call-add_ranges-requires
plans_of_call-add_ranges-requires t c =
    let s = c.args.search.now in
    let within = next_alternative s c.args.star.now c.args.env.now c.in-Some.found.now c.as_slice-alternative-items.result.now c.loop-index.index c.alternative-item.result c.as_slice.result.now c.new-none.result
    c.stands.ensures.formed c.stands.ensures.accepted c.requires.open.goal c.requires.leads c.in-Some.ensures c.as_slice-alternative-items.ensures c.loop-index-test.true c.alternative-item.is
    c.as_slice.ensures c.new-none.ensures in
    let few = within.numbers in
    (omega (arith, c.decreases, few), (c.requires.open, (within, c.loop-index.invariant.shared)))

pub plans_of_call-loop-index-preserved : goal.plans_of_call-loop-index-preserved
plans_of_call-loop-index-preserved t c =
    let s = c.args.search.now in
    record {
      gathered = one_seen s.query.now s.rules.now c.args.star.now c.args.env.now c.as_slice-alternative-items.result.now c.loop-index.index c.alternative-item.result c.as_slice.result.now c.new-none.result
          c.loop-index.out c.add_ranges.new.out c.loop-index-test.true c.alternative-item.is c.as_slice.ensures c.new-none.ensures c.loop-index.invariant.gathered c.in_ok-add_ranges.ensures.gathered;
      shared = c.in_ok-add_ranges.ensures.shared;
    }

pub plans_of_call-returns-clause-best : goal.plans_of_call-returns-clause-best
plans_of_call-returns-clause-best t c =
    let s = c.args.search.now in
    elim c.match-star.branch [
      | plans_of_call-in-Some+else-loop-index-test w ↦ all_seen s.query.now s.rules.now c.args.star.now c.args.env.now w.in-Some.found.now w.as_slice-alternative-items.result.now w.loop-index.index w.loop-index.out
          c.match-star.out w.in-Some.ensures w.as_slice-alternative-items.ensures w.loop-index-test.false w.loop-index.invariant.gathered w.out-is c.apart.ensures
      | plans_of_call-in_default w ↦ none_called s.query.now s.rules.now c.args.star.now c.args.env.now c.new-out.result c.match-star.out (sym w.in_default.ensures) c.new-out.ensures w.out-is c.apart.ensures
    ]

pub plans_of_call-loop-index-init : goal.plans_of_call-loop-index-init
plans_of_call-loop-index-init t c =
    let s = c.args.search.now in
    record {
      gathered = subst (λ (set : List DerivedPlan). Gathers is_better_plan [] set (FirstWays s.query.now s.rules.now c.args.star.now c.args.env.now c.as_slice-alternative-items.result.now 0)) (sym c.new-out.ensures)
          (none_seen s.query.now s.rules.now c.args.star.now c.args.env.now c.as_slice-alternative-items.result.now);
      shared = c.requires.shared;
    }
