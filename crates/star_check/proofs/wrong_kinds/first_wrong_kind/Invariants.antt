use Rattle.std.proofs.Common.{◌≡◌, take}
use Rattle.star_model.specs.Accepted.{has_wrong_kind}
use Rattle.star_check.specs.FirstStatements.{first_star}
use Rattle.star_check.proofs.wrong_kinds.first_wrong_kind.Given as goal

abbrev pub invariant-loop-star : goal.invariant-loop-star
invariant-loop-star l = l.first ≡ first_star (has_wrong_kind l.rules) (take l.star-index l.star-items)
