use Rattle.std.proofs.Common.{◌≡◌, true, map, take}
use Rattle.std.specs.List.{list_all}
use Rattle.star_model.specs.Accepted.{alternative_has_kinds}
use Rattle.star_check.proofs.wrong_kinds.alternatives_have_kinds.Given as goal

abbrev pub invariant-loop-alternative : goal.invariant-loop-alternative
invariant-loop-alternative l = list_all (alternative_has_kinds l.rules (map (λ p. p.kind) l.params)) (take l.alternative-index l.alternative-items) ≡ true
