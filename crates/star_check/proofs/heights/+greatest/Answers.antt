use Rattle.std.proofs.Common.{ap, ◌∙◌}
use Rattle.std.specs.List.{fold}
use Rattle.star_model.specs.Accepted.{references_in}
use Rattle.star_check.specs.Sizes.{greater}
use Rattle.star_check.proofs.Rounds.{over_both}
use Rattle.star_check.proofs.heights.+greatest.Goals as goal

pub returns-in-Binary : goal.returns-in-Binary
returns-in-Binary t c =
    over_both
    (λ h r. greater c.args.stars.now c.args.heights.now h r.0)
    c.args.plan.now
    c.in-Binary.flavour
    c.in-Binary.args
    c.in-Binary.left
    c.in-Binary.right
    c.args.height
    c.greatest-height.result
    c.greatest-in-Binary.result
    c.in-Binary.is
    (c.greatest-height.ensures
    ∙ ap (λ p. fold (λ h r. greater c.args.stars.now c.args.heights.now h r.0) c.args.height (references_in p)) c.get-in-Binary.ensures)
    (c.greatest-in-Binary.ensures
    ∙ ap (λ p. fold (λ h r. greater c.args.stars.now c.args.heights.now h r.0) c.greatest-height.result (references_in p)) c.get-in-Binary-2.ensures)
