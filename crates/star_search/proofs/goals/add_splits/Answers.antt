use Rattle.std.proofs.Common.{Some}
use Rattle.star_model.specs.Sets.{splits}
use Rattle.star_model.specs.Splits.{splits_left}
use Rattle.dominance_prune.specs.GatheringCases.{Passes-all}
use Rattle.lolepop.specs.Derived.{is_better_plan}
use Rattle.exchange.specs.Places.{SplitWay}
use Rattle.star_search.proofs.Ranges.{one_more}
use Rattle.star_search.proofs.Splits.{next_may}
use Rattle.star_search.proofs.goals.add_splits.Goals as goal

pub add_split-requires-clause-split : goal.add_split-requires-clause-split
add_split-requires-clause-split c =
    let goal = c.args.search.now.goal in
    next_may goal.tables c.loop-split.yielded (splits_left c.loop-split.split-iterator) (splits_left c.next.new.self) c.in-Some.split c.requires.open.goal.bounds.0 c.requires.several c.loop-split.invariant.passes.all
    c.in-Some.ensures.steps

pub loop-split-preserved : goal.loop-split-preserved
loop-split-preserved c =
    let s = c.args.search.now in
    record {
      passes = one_more (splits s.goal.tables) c.loop-split.yielded c.in-Some.split (splits_left c.loop-split.split-iterator) (splits_left c.next.new.self) c.args.out.now c.loop-split.out c.add_split.new.out
          (λ p. SplitWay s.query.now s.rules.now s.goal.tables s.goal.pushed (Some p)) c.in-Some.ensures.steps c.loop-split.invariant.passes c.in_ok-add_split.ensures.gathered;
      shared = c.in_ok-add_split.ensures.shared;
    }

pub returns-clause-gathered : goal.returns-clause-gathered
returns-clause-gathered c =
    let s = c.args.search.now in
    Passes-all is_better_plan (splits s.goal.tables) c.loop-split.yielded (splits_left c.loop-split.split-iterator) c.args.out.now c.loop-split.out (λ p. SplitWay s.query.now s.rules.now s.goal.tables s.goal.pushed (Some p))
    c.in-None.ensures.steps.0 c.loop-split.invariant.passes
