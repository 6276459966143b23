use Rattle.std.proofs.Common.{◌≡◌, map}
use Rattle.star_model.specs.Accepted.{height_within}
use Rattle.star_check.proofs.heights.heights.Given as goal

abbrev pub invariant-loop-round : goal.invariant-loop-round
invariant-loop-round l = l.heights.items ≡ map (λ s. height_within l.rules l._round s.name) l.stars
