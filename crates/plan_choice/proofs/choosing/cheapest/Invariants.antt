use Rattle.std.proofs.Common.{◌≡◌, ◌++◌, map, [], MatchOption}
use Rattle.std.specs.Option.{option_copied}
use Rattle.plan_choice.specs.Choice.{IsCheapest}
use Rattle.plan_choice.proofs.choosing.cheapest.Given as goal

abbrev pub invariant-loop-entry : goal.invariant-loop-entry
invariant-loop-entry l = record {
  all : l.plans ≡ map (λ r. r.now) l.yielded ++ l.entry-iterator.members.now;
  best : MatchOption (option_copied l.best) (map (λ r. r.now) l.yielded ≡ []) (IsCheapest (map (λ r. r.now) l.yielded));
}
