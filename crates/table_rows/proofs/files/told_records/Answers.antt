use Rattle.std.proofs.Common.{◌≡◌, ◌∙◌, sym, get_or}
use Rattle.table_rows.proofs.files.told_records.Goals as goal
use Rattle.table_rows.proofs.Widths.{widths}

pub rows_of-requires : goal.rows_of-requires
rows_of-requires c row within =
    let definition : c.index-as_slice-from.result ≡ get_or c.args.catalogue.now.tables c.args.table c.index-as_slice-from.result = cc in
    widths c.args.catalogue.now c.args.table c.index-as_slice-from.result c.args.records c.in-Ok-load.table c.requires.table definition c.in-Ok-load.ensures.rows_are row within
    ∙ sym c.len.ensures ∙ sym c.in-Ok.ensures.1
