use Rattle.std.proofs.Common.{◌≡◌, map, drop}
use Rattle.star_model.specs.Kinds.{kinds_after}
use Rattle.star_check.proofs.wrong_kinds.kinds_after.Given as goal

abbrev pub invariant-loop-each : goal.invariant-loop-each
invariant-loop-each l = kinds_after (map (λ p. p.kind) l.params) l.ranges ≡ kinds_after l.kinds (drop l.each-index l.ranges)
