use Rattle.std.proofs.Common.{◌≡◌, take}
use Rattle.std.specs.List.{fold}
use Rattle.star_model.specs.Numbers.{cut_sum}
use Rattle.star_model.specs.Accepted.{references_in}
use Rattle.star_check.specs.Sizes.{size_among}
use Rattle.star_check.proofs.weights.next_weight.Given as goal

abbrev pub invariant-loop-alternative : goal.invariant-loop-alternative
invariant-loop-alternative l =
    l.sum ≡ fold (λ w a. cut_sum w (fold (λ x r. cut_sum x (size_among l.stars l.weights r.0)) 1 (references_in a.body))) 0 (take l.alternative-index l.alternative-items)
