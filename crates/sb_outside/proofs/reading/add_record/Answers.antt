use Rattle.std.proofs.Common.{Bor, List, ℕ, [], ◌∷◌, ◌++◌, ◌∙◌, ap}
use Rattle.csv.specs.Records.{Row, fields_of}
use Rattle.sb_outside.specs.Pieces.{with_last_item}
use Rattle.sb_outside.specs.Records.{Records}
use Rattle.sb_outside.proofs.RowFields.{field_added, all_fields}
use Rattle.sb_outside.proofs.reading.add_record.Goals as goal

pub loop-field-preserved : goal.loop-field-preserved
loop-field-preserved c =
    let invariant = c.loop-field.invariant in
    let step = c.in-Some.ensures.steps in
    let added = field_added c.args.table.now (fields_of c.args.row.now) c.loop-field.field-iterator.at c.in-Some.field.now (rw invariant.0 at step.1) in (
      ap (λ (row : Bor Row). row.now) step.0 ∙ invariant.0,
      rw step.2 (c.in_ok-add.ensures.added ∙ ap (λ (table : Records). with_last_item table c.in-Some.field.now) invariant.1 ∙ added),
    )

pub returns : goal.returns
returns c =
    let invariant = c.loop-field.invariant in
    let step = c.in-None.ensures.steps in
    invariant.1 ∙ ap (λ (fields : List (List ℕ)). c.args.table.now ++ fields ∷ []) (all_fields (fields_of c.args.row.now) c.loop-field.field-iterator.at (rw invariant.0 at step.1))
