use Rattle.std.proofs.Common.{◌∙◌, ap}
use Rattle.shared_sets.specs.Tables.{glued_for, same_request}
use Rattle.shared_sets.proofs.TableLaws.{set_for-lookup}
use Rattle.shared_sets.proofs.glued_sets.GluedSets.get.Goals as goal

pub returns : goal.returns
returns c = c.get.ensures.value ∙ set_for-lookup same_request c.self.inside.sets.entries c.args.request.now ∙ ap (λ table. glued_for table c.args.request.now) c.self.view_is
