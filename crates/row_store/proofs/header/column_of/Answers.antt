use Rattle.std.proofs.Common.{◌∙◌, ap, ℕ}
use Rattle.std.specs.Option.{option_map}
use Rattle.star_model.specs.Data.{header_of, place_in}
use Rattle.sb_outside.specs.Records.{record_at}
use Rattle.row_store.specs.declared.header.Column.{Column}
use Rattle.row_store.proofs.header.column_of.Goals as goal

pub returns-in_err-place-clause-column : goal.returns-in_err-place-clause-column
returns-in_err-place-clause-column c =
    let at : ℕ → Column = λ place. record { kind = c.args.definition.now.kind; place = place } in
    c.from_residual.ensures ∙ ap (option_map at) (c.in_err-place.ensures.place ∙ ap (place_in (header_of (record_at c.args.raw.now 0))) c.as_slice.ensures)

pub returns-clause-column : goal.returns-clause-column
returns-clause-column c =
    let at : ℕ → Column = λ place. record { kind = c.args.definition.now.kind; place = place } in
    ap (option_map at) (c.in_ok-place.ensures.place ∙ ap (place_in (header_of (record_at c.args.raw.now 0))) c.as_slice.ensures)
