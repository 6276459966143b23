use Rattle.std.proofs.Common.{◌≡◌, map, take}
use Rattle.std.specs.List.{fold, flat_map}
use Rattle.star_model.specs.Accepted.{references_in}
use Rattle.star_check.specs.Sizes.{greater}
use Rattle.star_check.proofs.heights.greatest_of_references.Given as goal

abbrev pub invariant-loop-alternative : goal.invariant-loop-alternative
invariant-loop-alternative l =
    l.height ≡ fold (λ h r. greater l.stars l.heights h r.0) 0 (flat_map references_in (map (λ a. a.body) (take l.alternative-index l.alternative-items)))
