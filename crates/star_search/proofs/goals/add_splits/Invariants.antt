use Rattle.std.proofs.Common.{Some}
use Rattle.star_model.specs.Sets.{splits}
use Rattle.star_model.specs.Splits.{splits_left}
use Rattle.dominance_prune.specs.Gathering.{Passes}
use Rattle.lolepop.specs.Derived.{is_better_plan}
use Rattle.exchange.specs.Places.{SplitWay}
use Rattle.search_places.specs.Shared.{HoldsShared}
use Rattle.star_search.proofs.goals.add_splits.Given as goal

abbrev pub invariant-loop-split : goal.invariant-loop-split
invariant-loop-split l = record {
  passes : Passes is_better_plan (splits l.search.goal.tables) l.yielded (splits_left l.split-iterator) l.initial.out l.out
      (λ p. SplitWay l.search.query.now l.search.rules.now l.search.goal.tables l.search.goal.pushed (Some p));
  shared : HoldsShared l.search.query.now l.search.rules.now l.tables;
}
