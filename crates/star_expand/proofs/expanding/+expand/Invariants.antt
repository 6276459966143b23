use Rattle.std.proofs.Common.{◌≡◌, ℕ, ◌+◌, ◌-◌, ◌*◌, ◌^◌, ◌++◌, length, None}
use Rattle.std.specs.Prelude.{Contains, Some}
use Rattle.star_model.specs.Sets.{size, splits}
use Rattle.star_model.specs.Splits.{splits_left}
use Rattle.star_model.specs.Expected.{root_call}
use Rattle.exchange.specs.Asking.{AsksFrom}
use Rattle.search_places.specs.Memos.{HoldsFrontiers, IsClosed, FirstMissing}
use Rattle.search_places.specs.Shared.{HoldsShared}
use Rattle.star_expand.specs.Expanding.{Grows}
use Rattle.star_expand.proofs.expanding.+expand.Given as goal

abbrev pub decreases-expand_goal : goal.decreases-expand_goal
decreases-expand_goal l = 3 * size l.goal.tables + 2

abbrev pub decreases-fill : goal.decreases-fill
decreases-fill l = 3 * size l.goal.now.tables + 1

abbrev pub decreases-fill_split : goal.decreases-fill_split
decreases-fill_split l = 3 * size l.goal.now.tables

abbrev pub invariant-fill-loop-split : goal.invariant-fill-loop-split
invariant-fill-loop-split l = record {
  frontiers : HoldsFrontiers l.query l.rules l.memo;
  closed : IsClosed l.query l.rules l.memo;
  grows : Grows l.query l.rules l.goal l.initial.memo l.memo;
  shared : HoldsShared l.query l.rules l.tables;
  all : splits l.goal.tables ≡ l.yielded ++ splits_left l.split-iterator;
  held : (p : ℕ × ℕ) → Contains l.yielded p → FirstMissing l.memo (AsksFrom l.query l.rules (root_call l.goal.tables l.goal.pushed (Some p))) None;
}

abbrev pub invariant-fill_split-loop-next : goal.invariant-fill_split-loop-next
invariant-fill_split-loop-next l = record {
  frontiers : HoldsFrontiers l.query l.rules l.memo;
  closed : IsClosed l.query l.rules l.memo;
  grows : Grows l.query l.rules l.goal l.initial.memo l.memo;
  shared : HoldsShared l.query l.rules l.tables;
}

abbrev pub decreases-fill_split-loop-next : goal.decreases-fill_split-loop-next
decreases-fill_split-loop-next l = 2 ^ 64 - length l.memo
