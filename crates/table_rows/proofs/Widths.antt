-- Each row of a loaded table has as many values as the table has columns.
use Rattle.std.proofs.Common.{◌≡◌, ◌∙◌, sym, ap, ℕ, ◌<◌, List, [], length, Some, slice_get, get_or}
use Rattle.std.proofs.lemmas.Option.{slice_get-get_or}
use Rattle.std.proofs.lemmas.List.{length-map}
use Rattle.star_model.specs.Data.{Record, table_rows}
use Rattle.star_model.specs.WellFormed.{type_of_value}
use Rattle.star_model.specs.declared.catalogue.Catalogue.{Catalogue}
use Rattle.star_model.specs.declared.catalogue.TableDef.{TableDef}
use Rattle.star_model.specs.declared.catalogue.ColumnDef.{ColumnDef}
use Rattle.star_model.specs.declared.catalogue.Value.{Value}
use Rattle.row_store.proofs.Laws.{rows_fit}

pub widths : (c : Catalogue) (n : ℕ) (t : TableDef) (records : List Record) (rows : List (List Value)) → n < length c.tables → t ≡ get_or c.tables n t → table_rows c n records ≡ Some rows
    → (row : ℕ) → row < length rows → length (get_or rows row []) ≡ length t.columns
widths c n t records rows within is are row inside =
    let at : slice_get c.tables n ≡ Some t = slice_get-get_or c.tables n t within ∙ ap (λ x. Some x) (sym is) in
    sym (length-map (get_or rows row []) type_of_value) ∙ ap length (rows_fit c n records t rows at are row [] inside)
    ∙ length-map t.columns (λ (column : ColumnDef). column.kind)
