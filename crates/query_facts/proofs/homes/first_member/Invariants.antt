use Rattle.std.proofs.Common.{◌≡◌}
use Rattle.star_model.specs.Sets.{members}
use Rattle.query_facts.proofs.MemberWalks.{members_from}
use Rattle.query_facts.proofs.homes.first_member.Given as goal

abbrev pub invariant-loop-quant : goal.invariant-loop-quant
invariant-loop-quant l = members_from l.tables l.quant ≡ members l.tables
