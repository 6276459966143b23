use Rattle.row_steps.specs.LoadedTables.{data_of}
use Rattle.row_printing.proofs.RowReading.{line_made}
use Rattle.row_printing.proofs.printing.push_row.Goals as goal

pub returns : goal.returns
returns c =
    line_made c.args.query.now (data_of c.args.tables.now) c.requires c.args.row.now c.whole-env.result c.as_slice.result.now _ _ _
    c.whole-env.ensures c.as_slice.ensures c.in_ok-push_values.ensures c.in_ok-push.ensures.items
