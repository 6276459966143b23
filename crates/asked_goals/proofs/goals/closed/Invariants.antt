use Rattle.std.proofs.Common.{◌≡◌, ℕ, ◌++◌, None}
use Rattle.std.specs.Prelude.{Contains, Some}
use Rattle.star_model.specs.Sets.{splits}
use Rattle.star_model.specs.Splits.{splits_left}
use Rattle.star_model.specs.Expected.{root_call}
use Rattle.exchange.specs.Asking.{AsksFrom}
use Rattle.search_places.specs.Memos.{FirstMissing}
use Rattle.asked_goals.proofs.goals.closed.Given as goal

abbrev pub invariant-loop-split : goal.invariant-loop-split
invariant-loop-split l = record {
  all : splits l.goal.tables ≡ l.yielded ++ splits_left l.split-iterator;
  held : (p : ℕ × ℕ) → Contains l.yielded p → FirstMissing l.memo (AsksFrom l.query l.rules (root_call l.goal.tables l.goal.pushed (Some p))) None;
}
