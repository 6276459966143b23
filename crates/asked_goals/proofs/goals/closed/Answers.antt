use Rattle.std.proofs.Common.{◌≡◌, ◌∙◌, sym, subst, refl, ℕ, List, Some, None, true, false, nat_eq}
use Rattle.std.specs.Prelude.{Contains}
use Rattle.std.proofs.lemmas.Bool.{true≢false, ne_eqb}
use Rattle.star_model.specs.Sets.{size, splits}
use Rattle.star_model.specs.Splits.{splits_left}
use Rattle.star_model.specs.Expected.{root_call}
use Rattle.exchange.specs.Asking.{AsksFrom}
use Rattle.exchange.proofs.Laws.{split_listed}
use Rattle.asked_goals.proofs.GoalLaws.{holds_of_one, holds_of_splits, missing_denies, none_is_missing, one_is_missing}
use Rattle.asked_goals.proofs.Turns.{next_among, seen_all, seen_more, splits_more}
use Rattle.asked_goals.proofs.goals.closed.Goals as goal

several : (s n : ℕ) → n ≡ size s → (n ≡ 1 → ⊥) → nat_eq (size s) 1 ≡ false
several s n is not_one = ne_eqb (size s) 1 (λ e. not_one (is ∙ e))

pub returns-then-len-eq1 : goal.returns-then-len-eq1
returns-then-len-eq1 c = (λ _. holds_of_one c.args.query.now c.args.rules.now c.args.memo.now c.args.goal.now c.stands.ensures.accepted (sym c.len.ensures ∙ c.if-len-eq1.true), λ _. refl)

pub missing_in_split-requires-clause-split : goal.missing_in_split-requires-clause-split
missing_in_split-requires-clause-split c =
    let s = c.args.goal.now.tables in
    let listed = next_among (splits s) c.loop-split.yielded (splits_left c.loop-split.split-iterator) (splits_left c.next.new.self) c.in-Some.split c.loop-split.invariant.all c.in-Some.ensures.steps in
    (split_listed s c.requires.goal.bounds.0 (several s c.len.result c.len.ensures c.if-len-eq1.false) c.in-Some.split).1 listed

pub returns-then-is_some : goal.returns-then-is_some
returns-then-is_some c =
    let s = c.args.goal.now.tables in
    let listed = next_among (splits s) c.loop-split.yielded (splits_left c.loop-split.split-iterator) (splits_left c.next.new.self) c.in-Some.split c.loop-split.invariant.all c.in-Some.ensures.steps in
    let may = (split_listed s c.requires.goal.bounds.0 (several s c.len.result c.len.ensures c.if-len-eq1.false) c.in-Some.split).1 listed in
    let found = one_is_missing c.args.memo.now (AsksFrom c.args.query.now c.args.rules.now (root_call s c.args.goal.now.pushed (Some c.in-Some.split))) c.missing_in_split.result (sym c.is_some.ensures ∙ c.if-is_some.true) c.missing_in_split.ensures in
    (λ no. absurd (true≢false (sym no)), λ held. absurd (missing_denies c.args.query.now c.args.rules.now c.args.memo.now c.args.goal.now found.0 c.in-Some.split may found.1 held))

pub loop-split-preserved : goal.loop-split-preserved
loop-split-preserved c =
    let s = c.args.goal.now.tables in
    record {
      all = seen_more (splits s) c.loop-split.yielded (splits_left c.loop-split.split-iterator) (splits_left c.next.new.self) c.in-Some.split c.loop-split.invariant.all c.in-Some.ensures.steps;
      held = splits_more c.args.query.now c.args.rules.now c.args.memo.now s c.args.goal.now.pushed c.loop-split.yielded c.in-Some.split c.loop-split.invariant.held
          (none_is_missing c.args.memo.now (AsksFrom c.args.query.now c.args.rules.now (root_call s c.args.goal.now.pushed (Some c.in-Some.split))) c.missing_in_split.result (sym c.is_some.ensures ∙ c.if-is_some.false) c.missing_in_split.ensures);
    }

pub returns : goal.returns
returns c =
    let s = c.args.goal.now.tables in
    let all = seen_all (splits s) c.loop-split.yielded (splits_left c.loop-split.split-iterator) c.loop-split.invariant.all c.in-None.ensures.steps.0 in (
      λ _. holds_of_splits c.args.query.now c.args.rules.now c.args.memo.now c.args.goal.now c.requires.goal.bounds.0 (several s c.len.result c.len.ensures c.if-len-eq1.false)
          (λ p listed. c.loop-split.invariant.held p (subst (λ (xs : List (ℕ × ℕ)). Contains {X = ℕ × ℕ} xs p) all listed)),
      λ _. refl,
    )
