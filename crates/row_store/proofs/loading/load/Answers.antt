use Rattle.std.proofs.Common.{refl, length}
use Rattle.std.proofs.lemmas.Option.{slice_get_read}
use Rattle.row_store.proofs.Loaded.{few_columns, loads}
use Rattle.row_store.proofs.loading.load.Goals as goal

pub open-requires : goal.open-requires
open-requires c =
    few_columns c.args.catalogue.now c.args.table c.index-as_slice-table.result c.requires.catalogue c.requires.table (rw c.as_slice.ensures at c.index-as_slice-table.is)

pub returns : goal.returns
returns c =
    loads c.args.catalogue.now c.args.table c.index-as_slice-table.result c.args.raw c.open.result
    (slice_get_read c.args.catalogue.now.tables (length c.args.catalogue.now.tables) c.args.table c.index-as_slice-table.result refl c.requires.table (rw c.as_slice.ensures at c.index-as_slice-table.is))
    c.open.ensures
