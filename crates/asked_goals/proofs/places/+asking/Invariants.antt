use Rattle.std.proofs.Common.{◌≡◌, ℕ, ◌+◌, ◌*◌, ◌<◌, ◌++◌, ◌∷◌, [], length, None}
use Rattle.std.specs.Prelude.{Contains, Some, slice_get}
use Rattle.star_model.specs.Meaning.{members_of}
use Rattle.star_model.specs.declared.rules.Alternative.{Alternative}
use Rattle.star_model.specs.declared.values.RuleValue.{RuleValue}
use Rattle.search_places.specs.Memos.{FirstMissing}
use Rattle.search_places.specs.Searching.{work_at, work_in}
use Rattle.asked_goals.specs.Alternatives.{AsksOver}
use Rattle.asked_goals.proofs.places.+asking.Given as goal

abbrev pub decreases-missing_in : goal.decreases-missing_in
decreases-missing_in l = work_at l.search.now.rules.now l.expr.now

abbrev pub decreases-missing_in_call : goal.decreases-missing_in_call
decreases-missing_in_call l = work_in l.search.now.rules.now l.star.now 9

abbrev pub decreases-missing_in_ranges : goal.decreases-missing_in_ranges
decreases-missing_in_ranges l = work_in l.search.now.rules.now l.star.now (1 + 2 * length l.ranges.now)

abbrev pub decreases-missing_in_members : goal.decreases-missing_in_members
decreases-missing_in_members l = work_in l.search.now.rules.now l.star.now (2 + 2 * length l.more.now)

abbrev pub decreases-missing_in_body : goal.decreases-missing_in_body
decreases-missing_in_body l = work_in l.search.now.rules.now l.star.now 0

abbrev pub invariant-missing_in_call-loop-alternative : goal.invariant-missing_in_call-loop-alternative
invariant-missing_in_call-loop-alternative l =
    (i : ℕ) (a : Alternative) → i < l.alternative-index → slice_get l.alternative-items i ≡ Some a
    → FirstMissing l.search.memo.now (AsksOver l.search.query.now l.search.rules.now a a.ranges l.env) None

abbrev pub invariant-missing_in_members-loop-member : goal.invariant-missing_in_members-loop-member
invariant-missing_in_members-loop-member l = record {
  all : members_of l.search.query.now l.env l.fn.first.range ≡ l.yielded ++ l.member-iterator;
  held : (v : RuleValue) → Contains l.yielded v → FirstMissing l.search.memo.now (AsksOver l.search.query.now l.search.rules.now l.alternative l.more (l.env ++ v ∷ [])) None;
}
