use Rattle.std.proofs.Common.{◌≡◌, map}
use Rattle.star_model.specs.Accepted.{weight_within}
use Rattle.star_check.proofs.weights.weights.Given as goal

abbrev pub invariant-loop-round : goal.invariant-loop-round
invariant-loop-round l = l.weights.items ≡ map (λ s. weight_within l.rules l._round s.name) l.stars
