use Rattle.std.proofs.Common.{arith, ◌∙◌, sym, subst, ℕ, List}
use Rattle.std.specs.Prelude.{Contains}
use Rattle.star_model.specs.Sets.{splits}
use Rattle.star_model.specs.Splits.{splits_left}
use Rattle.star_check.proofs.Laws.{asked_goal_is_smaller, goal_asks_for_goals}
use Rattle.exchange.proofs.Laws.{split_listed}
use Rattle.asked_goals.proofs.Laws.{split_asks, holds_of_one, holds_of_splits}
use Rattle.star_expand.proofs.Growing.{Grows-then, Grows-through, grown, frontiers_after, closed_after, Grows-after, held_after, splits_filled, next_among, seen_all, seen_more, copied_none, several}
use Rattle.star_expand.proofs.expanding.+expand.Goals as goal

-- ---- a goal

pub expand_goal-fill-requires : goal.expand_goal-fill-requires
expand_goal-fill-requires t c = (omega (arith, c.decreases), (c.requires.query, (c.requires.goal, (c.requires.frontiers, (c.requires.closed, c.requires.shared)))))

pub expand_goal-returns-clause-frontiers : goal.expand_goal-returns-clause-frontiers
expand_goal-returns-clause-frontiers t c =
    let none = sym c.get-2.ensures ∙ copied_none c.get-2.result (sym c.is_some-2.ensures ∙ c.if-is_some-2.false) in
    frontiers_after c.args.query.now c.args.rules.now c.args.goal c.in_ok-plans.plans c.fill.new.memo c.put.new.self none c.put.result c.put.ensures.put c.put.ensures.memory c.in_ok-fill.ensures.frontiers c.in_ok-plans.ensures.best

pub expand_goal-returns-clause-closed : goal.expand_goal-returns-clause-closed
expand_goal-returns-clause-closed t c =
    let none = sym c.get-2.ensures ∙ copied_none c.get-2.result (sym c.is_some-2.ensures ∙ c.if-is_some-2.false) in
    closed_after c.args.query.now c.args.rules.now c.args.goal c.in_ok-plans.plans c.fill.new.memo c.put.new.self none c.put.result c.put.ensures.put c.put.ensures.memory c.in_ok-fill.ensures.closed c.in_ok-fill.ensures.asked

pub expand_goal-returns-clause-grows : goal.expand_goal-returns-clause-grows
expand_goal-returns-clause-grows t c =
    let none = sym c.get-2.ensures ∙ copied_none c.get-2.result (sym c.is_some-2.ensures ∙ c.if-is_some-2.false) in
    Grows-then c.args.query.now c.args.rules.now c.args.goal c.args.memo.now c.fill.new.memo c.put.new.self c.in_ok-fill.ensures.grows
    (Grows-after c.args.query.now c.args.rules.now c.args.goal c.in_ok-plans.plans c.fill.new.memo c.put.new.self none c.put.result c.put.ensures.put c.put.ensures.memory)

pub expand_goal-returns-clause-held : goal.expand_goal-returns-clause-held
expand_goal-returns-clause-held t c =
    let none = sym c.get-2.ensures ∙ copied_none c.get-2.result (sym c.is_some-2.ensures ∙ c.if-is_some-2.false) in
    held_after c.args.query.now c.args.rules.now c.args.goal c.in_ok-plans.plans c.fill.new.memo c.put.new.self none c.put.result c.put.ensures.put

-- ---- the splits of a goal

pub fill-returns-then-len-eq1-clause-asked : goal.fill-returns-then-len-eq1-clause-asked
fill-returns-then-len-eq1-clause-asked t c = holds_of_one c.args.query.now c.args.rules.now c.args.memo.now c.args.goal.now c.stands.ensures.accepted (sym c.len.ensures ∙ c.if-len-eq1.true)

pub fill-fill_split-requires : goal.fill-fill_split-requires
fill-fill_split-requires t c =
    let s = c.args.goal.now.tables in
    let listed = next_among (splits s) c.loop-split.yielded (splits_left c.loop-split.split-iterator) (splits_left c.next.new.self) c.in-Some.split c.loop-split.invariant.all c.in-Some.ensures.steps in
    let may = (split_listed s c.requires.goal.bounds.0 (several s c.len.result c.len.ensures c.if-len-eq1.false) c.in-Some.split).1 listed in
    (omega (arith, c.decreases), (c.requires.query, (c.requires.goal, (may, (c.loop-split.invariant.frontiers, (c.loop-split.invariant.closed, c.loop-split.invariant.shared))))))

pub fill-loop-split-preserved : goal.fill-loop-split-preserved
fill-loop-split-preserved t c =
    let q = c.args.query.now in
    let rules = c.args.rules.now in
    let after = c.in_ok-fill_split.ensures in
    record {
      frontiers = after.frontiers;
      closed = after.closed;
      grows = Grows-then q rules c.args.goal.now c.args.memo.now c.loop-split.memo c.fill_split.new.memo c.loop-split.invariant.grows after.grows;
      shared = after.shared;
      all = seen_more (splits c.args.goal.now.tables) c.loop-split.yielded (splits_left c.loop-split.split-iterator) (splits_left c.next.new.self) c.in-Some.split c.loop-split.invariant.all c.in-Some.ensures.steps;
      held = splits_filled q rules c.args.goal.now c.loop-split.memo c.fill_split.new.memo c.loop-split.yielded c.in-Some.split c.loop-split.invariant.held after.grows after.asked;
    }

pub fill-returns-in_err-fill_split-clause-grows : goal.fill-returns-in_err-fill_split-clause-grows
fill-returns-in_err-fill_split-clause-grows t c =
    Grows-then c.args.query.now c.args.rules.now c.args.goal.now c.args.memo.now c.loop-split.memo c.fill_split.new.memo c.loop-split.invariant.grows c.in_err-fill_split.ensures.grows

pub fill-returns-clause-asked : goal.fill-returns-clause-asked
fill-returns-clause-asked t c =
    let s = c.args.goal.now.tables in
    let all = seen_all (splits s) c.loop-split.yielded (splits_left c.loop-split.split-iterator) c.loop-split.invariant.all c.in-None.ensures.steps.0 in
    holds_of_splits c.args.query.now c.args.rules.now c.loop-split.memo c.args.goal.now c.requires.goal.bounds.0 (several s c.len.result c.len.ensures c.if-len-eq1.false)
    (λ p listed. c.loop-split.invariant.held p (subst (λ (xs : List (ℕ × ℕ)). Contains {X = ℕ × ℕ} xs p) all listed))

-- ---- one split

pub fill_split-expand_goal-requires : goal.fill_split-expand_goal-requires
fill_split-expand_goal-requires t c =
    let q = c.args.query.now in
    let rules = c.args.rules.now in
    let g = c.args.goal.now in
    let n = c.in-Some.next in
    let asks = split_asks q rules g.tables g.pushed n.tables n.pushed c.args.split c.requires.split c.in-Some.ensures.0 in
    let less = asked_goal_is_smaller q rules c.stands.ensures.accepted g.tables g.pushed n.tables n.pushed c.requires.goal asks in (
      omega (arith, c.decreases, less.2),
      (
        c.requires.query,
        (
          goal_asks_for_goals q rules c.stands.ensures.accepted g.tables g.pushed n.tables n.pushed c.requires.goal asks,
          (c.loop-next.invariant.frontiers, (c.loop-next.invariant.closed, c.loop-next.invariant.shared)),
        ),
      ),
    )

pub fill_split-returns-in_err-expand_goal-clause-grows : goal.fill_split-returns-in_err-expand_goal-clause-grows
fill_split-returns-in_err-expand_goal-clause-grows t c =
    let q = c.args.query.now in
    let rules = c.args.rules.now in
    let g = c.args.goal.now in
    let n = c.in-Some.next in
    let asks = split_asks q rules g.tables g.pushed n.tables n.pushed c.args.split c.requires.split c.in-Some.ensures.0 in
    Grows-then q rules g c.args.memo.now c.loop-next.memo c.expand_goal.new.memo c.loop-next.invariant.grows (Grows-through q rules g n c.loop-next.memo c.expand_goal.new.memo asks c.in_err-expand_goal.ensures.grows)

pub fill_split-loop-next-preserved : goal.fill_split-loop-next-preserved
fill_split-loop-next-preserved t c =
    let q = c.args.query.now in
    let rules = c.args.rules.now in
    let g = c.args.goal.now in
    let n = c.in-Some.next in
    let after = c.in_ok-expand_goal.ensures in
    let asks = split_asks q rules g.tables g.pushed n.tables n.pushed c.args.split c.requires.split c.in-Some.ensures.0 in
    record {
      frontiers = after.frontiers;
      closed = after.closed;
      grows = Grows-then q rules g c.args.memo.now c.loop-next.memo c.expand_goal.new.memo c.loop-next.invariant.grows (Grows-through q rules g n c.loop-next.memo c.expand_goal.new.memo asks after.grows);
      shared = after.shared;
    }

pub fill_split-loop-next-smaller : goal.fill_split-loop-next-smaller
fill_split-loop-next-smaller t c =
    let n = c.in-Some.next in
    let more = grown c.args.query.now c.args.rules.now n n c.loop-next.memo c.expand_goal.new.memo c.in_ok-expand_goal.ensures.grows c.in-Some.ensures.1 c.in_ok-expand_goal.ensures.held in
    omega (arith, more, c.len-held.ensures, c.len-held.type_inv)

pub fill_split-prove-unreachable-requires : goal.fill_split-prove-unreachable-requires
fill_split-prove-unreachable-requires t c =
    let n = c.in-Some.next in
    let more = grown c.args.query.now c.args.rules.now n n c.loop-next.memo c.expand_goal.new.memo c.in_ok-expand_goal.ensures.grows c.in-Some.ensures.1 c.in_ok-expand_goal.ensures.held in
    let no : ⊥ = omega (arith, more, c.len-held.ensures, c.len-more.ensures, c.if-prove.true) in absurd no
