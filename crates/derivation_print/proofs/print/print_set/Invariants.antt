use Rattle.derivation_print.proofs.Sets.{IsLeft}
use Rattle.derivation_print.proofs.print.print_set.Given as goal

-- the members from n on complete the set
abbrev pub invariant-loop-n : goal.invariant-loop-n
invariant-loop-n g l = IsLeft l.out l.is_first (g.S.Members.number l.set) l.n l.initial.out
