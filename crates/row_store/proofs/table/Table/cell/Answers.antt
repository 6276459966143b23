use Rattle.std.proofs.Common.{◌≡◌, ◌+◌, ◌∙◌, ap, arith, w64, to_z, of_z}
use Rattle.std.proofs.lemmas.Int.{ints}
use Rattle.star_model.specs.declared.catalogue.Value.TheVariants as constant
use Rattle.sb_outside.specs.Records.{record_at}
use Rattle.row_store.proofs.CellLaws.{width, behind_header, cell_is, place_within, integer_value, text_value}
use Rattle.row_store.proofs.KeptNumbers.{as_many, has_number, number_is}
use Rattle.row_store.proofs.table.Table.cell.Goals as goal

pub index-column-requires : goal.index-column-requires
index-column-requires c = omega (arith, width c.self.inside.columns.items c.self.inside.raw c.args.self.now c.self.view_is c.args.row c.requires.row_in_range)

pub index-requires : goal.index-requires
index-requires c =
    omega (
      arith,
      width c.self.inside.columns.items c.self.inside.raw c.args.self.now c.self.view_is c.args.row c.requires.row_in_range,
      as_many (λ v. v.items) c.self.inside.numbers.items c.self.inside.columns.items c.self.inside.raw c.self.invariant.numbers,
    )

pub index-requires-in-Int : goal.index-requires-in-Int
index-requires-in-Int c =
    omega (
      arith,
      has_number (λ v. v.items) c.self.inside.numbers.items c.self.inside.columns.items c.self.inside.raw c.self.invariant.numbers
          c.args.column c.index-column.result.now c.index.result.now
          (omega (arith, width c.self.inside.columns.items c.self.inside.raw c.args.self.now c.self.view_is c.args.row c.requires.row_in_range)) c.index-column.ensures c.index.ensures c.in-Int.is
          c.args.row (behind_header c.self.inside.columns.items c.self.inside.raw c.args.self.now c.self.view_is c.args.row c.requires.row_in_range),
    )

pub field-requires-clause-field_in_range : goal.field-requires-clause-field_in_range
field-requires-clause-field_in_range c =
    place_within c.self.inside.columns.items c.self.inside.raw c.args.self.now c.self.view_is c.args.row c.requires.row_in_range
    c.args.column c.index-column.result.now c.requires.column_in_range c.index-column.ensures c.self.invariant.in_range c.self.invariant.lengths

pub returns-in-Int : goal.returns-in-Int
returns-in-Int c =
    let same : to_z w64 (of_z w64 c.index-in-Int.result.now) ≡ c.index-in-Int.result.now = omega (arith, ints) in
    ap (λ n. constant.Int n) same
    ∙ integer_value (record_at c.self.inside.raw (c.args.row + 1)) c.index-column.result.now c.in-Int.is c.index-in-Int.result.now
    (number_is (λ v. v.items) c.self.inside.numbers.items c.self.inside.columns.items c.self.inside.raw c.self.invariant.numbers
    c.args.column c.index-column.result.now c.index.result.now
    (omega (arith, width c.self.inside.columns.items c.self.inside.raw c.args.self.now c.self.view_is c.args.row c.requires.row_in_range)) c.index-column.ensures c.index.ensures c.in-Int.is
    c.args.row c.index-in-Int.result.now (behind_header c.self.inside.columns.items c.self.inside.raw c.args.self.now c.self.view_is c.args.row c.requires.row_in_range) c.index-in-Int.ensures)
    ∙ cell_is c.self.inside.columns.items c.self.inside.raw c.args.self.now c.self.view_is c.args.row c.requires.row_in_range
    c.args.column c.index-column.result.now c.requires.column_in_range c.index-column.ensures

pub returns-in-Text : goal.returns-in-Text
returns-in-Text c =
    ap (λ bytes. constant.Text bytes) c.field.ensures
    ∙ text_value (record_at c.self.inside.raw (c.args.row + 1)) c.index-column.result.now c.in-Text.is
    ∙ cell_is c.self.inside.columns.items c.self.inside.raw c.args.self.now c.self.view_is c.args.row c.requires.row_in_range
    c.args.column c.index-column.result.now c.requires.column_in_range c.index-column.ensures
