use Rattle.std.proofs.Common.{◌≡◌, ◌++◌, false}
use Rattle.star_model.specs.Meaning.{numbers_of, member_at}
use Rattle.plan_check.proofs.Members.{pairs, is_seen}
use Rattle.plan_check.proofs.bindings.member.Given as goal

abbrev pub invariant-loop-place : goal.invariant-loop-place
invariant-loop-place l = record {
  all : pairs (member_at l.range) (numbers_of l.query l.env l.range) ≡ l.yielded ++ l.place-iterator;
  none : is_seen l.number l.yielded ≡ false;
}
