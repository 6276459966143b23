use Rattle.std.proofs.Common.{◌∙◌, ap, ◌++◌, ◌∷◌, []}
use Rattle.indexmap.proofs.CallerLemmas.{insert_entry-new}
use Rattle.shared_sets.specs.Tables.{glued_for, same_request}
use Rattle.shared_sets.proofs.TableLaws.{set_for-lookup}
use Rattle.shared_sets.proofs.glued_sets.GluedSets.put.Goals as goal

pub returns-clause-put : goal.returns-clause-put
returns-clause-put c =
    let r = c.args.request in
    let none = set_for-lookup same_request c.self.inside.sets.entries r ∙ ap (λ table. glued_for table r) c.self.view_is ∙ c.requires in
    c.in_ok-insert.ensures.entries ∙ insert_entry-new same_request c.self.inside.sets r c.args.plans none ∙ ap (λ table. table ++ (r, c.args.plans) ∷ []) c.self.view_is
