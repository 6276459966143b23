use Rattle.std.proofs.Common.{arith, ◌∙◌, sym, ap, subst, length, ◌+◌, List, []}
use Rattle.star_model.specs.Expected.{values_of}
use Rattle.star_model.specs.Meaning.{members_of}
use Rattle.star_model.specs.declared.rules.ForAll.{ForAll}
use Rattle.search_places.specs.Searching.{IsWithin}
use Rattle.search_places.proofs.Laws.{input_part, left_part, right_part, reference_part, to_body, body_is_lower, few_arguments, to_alternative}
use Rattle.asked_goals.proofs.Parts.{leaf_missing, unary_missing, left_missing, right_missing, reference_missing}
use Rattle.asked_goals.proofs.Turns.{next_among, seen_all, seen_more, no_star, in_alternative, alternative_missing, alternatives_held, alternatives_more, member_missing, members_held, members_more, member_inside}
use Rattle.asked_goals.proofs.places.+asking.Goals as goal

pub missing_in-missing_in-requires : goal.missing_in-missing_in-requires
missing_in-missing_in-requires t c =
    let part = input_part c.args.search.now c.args.expr.now c.in-Unary.flavour c.in-Unary.args c.in-Unary.input c.get.result.now c.args.env.now c.in-Unary.is c.get.ensures c.requires.leads in
    (omega (arith, c.decreases, part.0), (c.requires.posed, part.1))

pub missing_in-missing_in-requires-in-Binary : goal.missing_in-missing_in-requires-in-Binary
missing_in-missing_in-requires-in-Binary t c =
    let part = left_part c.args.search.now c.args.expr.now c.in-Binary.flavour c.in-Binary.args c.in-Binary.left c.in-Binary.right c.get-in-Binary.result.now c.args.env.now c.in-Binary.is c.get-in-Binary.ensures c.requires.leads in
    (omega (arith, c.decreases, part.0), (c.requires.posed, part.1))

pub missing_in-missing_in-requires-in-None : goal.missing_in-missing_in-requires-in-None
missing_in-missing_in-requires-in-None t c =
    let part = right_part c.args.search.now c.args.expr.now c.in-Binary.flavour c.in-Binary.args c.in-Binary.left c.in-Binary.right c.get-in-None.result.now c.args.env.now c.in-Binary.is c.get-in-None.ensures c.requires.leads in
    (omega (arith, c.decreases, part.0), (c.requires.posed, part.1))

pub missing_in-values-values-requires-clause-few : goal.missing_in-values-values-requires-clause-few
missing_in-values-values-requires-clause-few t c =
    let few = few_arguments c.args.search.now c.args.expr.now c.in-Reference.star c.in-Reference.args c.args.env.now c.stands.ensures.formed c.stands.ensures.accepted c.requires.posed.goal c.in-Reference.is c.requires.leads in
    let same = ap length c.as_slice.ensures in
    omega (arith, few, same)

pub missing_in-missing_in_call-requires : goal.missing_in-missing_in_call-requires
missing_in-missing_in_call-requires t c =
    let s = c.args.search.now in
    let part = reference_part s c.args.expr.now c.in-Reference.star c.in-Reference.args c.args.env.now c.values-values.result c.in-Reference.is
    (c.values-values.ensures ∙ ap (values_of s.query.now c.args.env.now) c.as_slice.ensures) c.requires.leads in
    (omega (arith, c.decreases, part.0), (c.requires.posed, part.1))

pub missing_in-returns-in-Leaf : goal.missing_in-returns-in-Leaf
missing_in-returns-in-Leaf t c =
    let s = c.args.search.now in leaf_missing s.query.now s.rules.now s.memo.now c.args.expr.now c.in-Leaf.flavour c.in-Leaf.args c.args.env.now c.in-Leaf.is

pub missing_in-returns-in-Unary : goal.missing_in-returns-in-Unary
missing_in-returns-in-Unary t c =
    let s = c.args.search.now in
    unary_missing s.query.now s.rules.now s.memo.now c.args.expr.now c.in-Unary.flavour c.in-Unary.args c.in-Unary.input c.get.result.now c.args.env.now c.missing_in.result c.in-Unary.is c.get.ensures c.missing_in.ensures

pub missing_in-returns-in-Some : goal.missing_in-returns-in-Some
missing_in-returns-in-Some t c =
    let s = c.args.search.now in
    left_missing s.query.now s.rules.now s.memo.now c.args.expr.now c.in-Binary.flavour c.in-Binary.args c.in-Binary.left c.in-Binary.right c.get-in-Binary.result.now c.args.env.now c.in-Some.goal c.in-Binary.is c.get-in-Binary.ensures
    c.in-Some.ensures

pub missing_in-returns-in-None : goal.missing_in-returns-in-None
missing_in-returns-in-None t c =
    let s = c.args.search.now in
    right_missing s.query.now s.rules.now s.memo.now c.args.expr.now c.in-Binary.flavour c.in-Binary.args c.in-Binary.left c.in-Binary.right c.get-in-Binary.result.now c.get-in-None.result.now c.args.env.now
    c.missing_in-in-None.result c.in-Binary.is c.get-in-Binary.ensures c.get-in-None.ensures c.in-None.ensures c.missing_in-in-None.ensures

pub missing_in-returns-in-Reference : goal.missing_in-returns-in-Reference
missing_in-returns-in-Reference t c =
    let s = c.args.search.now in
    reference_missing s.query.now s.rules.now s.memo.now c.args.expr.now c.in-Reference.star c.in-Reference.args c.args.env.now c.values-values.result c.missing_in_call.result c.in-Reference.is
    (c.values-values.ensures ∙ ap (values_of s.query.now c.args.env.now) c.as_slice.ensures) c.missing_in_call.ensures

pub missing_in_body-missing_in-requires : goal.missing_in_body-missing_in-requires
missing_in_body-missing_in-requires t c =
    let s = c.args.search.now in
    let (n, picked, within) = c.requires.inside in
    let lower = body_is_lower s.rules.now c.args.star.now n c.args.alternative.now c.stands.ensures.formed c.stands.ensures.accepted within.found in
    (omega (arith, c.decreases, lower), (c.requires.posed, to_body s c.args.star.now n c.args.alternative.now picked c.args.env.now within (sym c.meets.ensures ∙ c.if-meets.true)))

pub missing_in_call-returns-in_err-found : goal.missing_in_call-returns-in_err-found
missing_in_call-returns-in_err-found t c =
    let s = c.args.search.now in no_star s.query.now s.rules.now s.memo.now c.args.star.now c.args.env.now c.from_residual.result c.from_residual.ensures c.in_err-found.ensures

pub missing_in_call-missing_in_ranges-missing-requires : goal.missing_in_call-missing_in_ranges-missing-requires
missing_in_call-missing_in_ranges-missing-requires t c =
    let s = c.args.search.now in
    let i = c.loop-alternative.alternative-index in
    let x = c.alternative-item.result in
    let at = in_alternative s.query.now s.rules.now s.memo.now c.args.star.now c.args.env.now c.in_ok-found.found.now c.as_slice-alternative-items.result.now c.in_ok-found.ensures c.as_slice-alternative-items.ensures i x
    c.loop-alternative-test.true c.alternative-item.is in
    let within = to_alternative s c.args.star.now c.args.env.now c.in_ok-found.found.now i x c.stands.ensures.formed c.stands.ensures.accepted c.requires.posed.goal c.requires.leads (sym c.in_ok-found.ensures) at in
    let numbers = within.numbers in
    let few = ap length c.as_slice.ensures in (
      omega (arith, c.decreases, numbers, few),
      (c.requires.posed, (i + 1, [], subst (λ (rs : List ForAll). IsWithin s c.args.star.now (i + 1) x rs [] c.args.env.now) (sym c.as_slice.ensures) within)),
    )

pub missing_in_call-returns-in-Some : goal.missing_in_call-returns-in-Some
missing_in_call-returns-in-Some t c =
    let s = c.args.search.now in
    alternative_missing s.query.now s.rules.now s.memo.now c.args.star.now c.args.env.now c.in_ok-found.found.now c.as_slice-alternative-items.result.now c.in_ok-found.ensures c.as_slice-alternative-items.ensures
    c.loop-alternative.alternative-index c.alternative-item.result c.as_slice.result.now c.in-Some.goal c.loop-alternative-test.true c.alternative-item.is c.as_slice.ensures c.in-Some.ensures

pub missing_in_call-loop-alternative-preserved : goal.missing_in_call-loop-alternative-preserved
missing_in_call-loop-alternative-preserved t c =
    let s = c.args.search.now in
    alternatives_more s.query.now s.rules.now s.memo.now c.args.star.now c.args.env.now c.as_slice-alternative-items.result.now c.loop-alternative.alternative-index c.alternative-item.result c.as_slice.result.now
    c.loop-alternative-test.true c.alternative-item.is c.as_slice.ensures c.loop-alternative.invariant c.in_default.ensures

pub missing_in_call-returns : goal.missing_in_call-returns
missing_in_call-returns t c =
    let s = c.args.search.now in
    alternatives_held s.query.now s.rules.now s.memo.now c.args.star.now c.args.env.now c.in_ok-found.found.now c.as_slice-alternative-items.result.now c.in_ok-found.ensures c.as_slice-alternative-items.ensures
    c.loop-alternative.alternative-index c.loop-alternative-test.false c.loop-alternative.invariant

pub missing_in_members-missing_in_ranges-requires : goal.missing_in_members-missing_in_ranges-requires
missing_in_members-missing_in_ranges-requires t c =
    let s = c.args.search.now in
    let among = next_among (members_of s.query.now c.args.env.now c.args.first.now.range) c.loop-member.yielded c.loop-member.member-iterator c.next.new.self c.in-Some.member c.loop-member.invariant.all c.in-Some.ensures.steps in (
      omega (arith, c.decreases),
      (
        c.requires.posed,
        member_inside s c.args.star.now c.args.alternative.now c.args.first.now c.args.more.now c.args.env.now c.requires.inside c.in-Some.member c.with_value-next.result among c.with_value-next.ensures,
      ),
    )

pub missing_in_members-returns-in-Some-missing_in_ranges : goal.missing_in_members-returns-in-Some-missing_in_ranges
missing_in_members-returns-in-Some-missing_in_ranges t c =
    let s = c.args.search.now in
    let among = next_among (members_of s.query.now c.args.env.now c.args.first.now.range) c.loop-member.yielded c.loop-member.member-iterator c.next.new.self c.in-Some.member c.loop-member.invariant.all c.in-Some.ensures.steps in
    member_missing s.query.now s.rules.now s.memo.now c.args.alternative.now c.args.first.now c.args.more.now c.args.env.now c.in-Some.member c.with_value-next.result c.in-Some-missing_in_ranges.goal among
    c.with_value-next.ensures c.in-Some-missing_in_ranges.ensures

pub missing_in_members-loop-member-preserved : goal.missing_in_members-loop-member-preserved
missing_in_members-loop-member-preserved t c =
    let s = c.args.search.now in
    record {
      all = seen_more (members_of s.query.now c.args.env.now c.args.first.now.range) c.loop-member.yielded c.loop-member.member-iterator c.next.new.self c.in-Some.member c.loop-member.invariant.all c.in-Some.ensures.steps;
      held = members_more s.query.now s.rules.now s.memo.now c.args.alternative.now c.args.first.now c.args.more.now c.args.env.now c.loop-member.yielded c.in-Some.member c.with_value-next.result c.with_value-next.ensures
          c.loop-member.invariant.held c.in_default.ensures;
    }

pub missing_in_members-returns : goal.missing_in_members-returns
missing_in_members-returns t c =
    let s = c.args.search.now in
    members_held s.query.now s.rules.now s.memo.now c.args.alternative.now c.args.first.now c.args.more.now c.args.env.now c.loop-member.yielded
    (seen_all (members_of s.query.now c.args.env.now c.args.first.now.range) c.loop-member.yielded c.loop-member.member-iterator c.loop-member.invariant.all c.in-None.ensures.steps.0) c.loop-member.invariant.held
