use Rattle.std.proofs.Common.{[], ◌+◌, ◌*◌, length}
use Rattle.dominance_prune.specs.Gathering.{Gathers, Passes}
use Rattle.lolepop.specs.Derived.{is_better_plan}
use Rattle.search_places.specs.Searching.{work_at, work_in}
use Rattle.search_places.specs.Shared.{HoldsShared}
use Rattle.star_search.proofs.Alternatives.{FirstWays}
use Rattle.star_search.proofs.Ranges.{numbered_members, NextWay}
use Rattle.star_search.proofs.bodies.+search.Given as goal

abbrev pub decreases-add_body : goal.decreases-add_body
decreases-add_body l = work_in l.search.now.rules.now l.part.now.star.now 0

abbrev pub decreases-add_ranges : goal.decreases-add_ranges
decreases-add_ranges l = work_in l.search.now.rules.now l.part.now.star.now (1 + 2 * length l.ranges.now)

abbrev pub decreases-add_members : goal.decreases-add_members
decreases-add_members l = work_in l.search.now.rules.now l.part.now.star.now (2 + 2 * length l.more.now)

abbrev pub decreases-plans_of_call : goal.decreases-plans_of_call
decreases-plans_of_call l = work_in l.search.now.rules.now l.star.now 8

abbrev pub decreases-plans_of : goal.decreases-plans_of
decreases-plans_of l = work_at l.search.now.rules.now l.expr.now

abbrev pub decreases-plans_of_reference : goal.decreases-plans_of_reference
decreases-plans_of_reference l = work_in l.search.now.rules.now l.star.now 9

abbrev pub invariant-add_members-loop-number : goal.invariant-add_members-loop-number
invariant-add_members-loop-number l = record {
  passes : Passes is_better_plan (numbered_members l.search.query.now l.env l.fn.first.range) l.yielded l.number-iterator l.initial.out l.out
      (NextWay l.search.query.now l.search.rules.now l.part.star.now l.part.number l.part.alternative.now l.more l.picked l.env);
  shared : HoldsShared l.search.query.now l.search.rules.now l.tables;
}

abbrev pub invariant-plans_of_call-loop-index : goal.invariant-plans_of_call-loop-index
invariant-plans_of_call-loop-index l = record {
  gathered : Gathers is_better_plan [] l.out (FirstWays l.search.query.now l.search.rules.now l.star l.env l.alternative-items l.index);
  shared : HoldsShared l.search.query.now l.search.rules.now l.tables;
}
