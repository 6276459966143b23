use Rattle.catalogue.specs.Words.{index_of}
use Rattle.catalogue.proofs.Resolved.{index_made}
use Rattle.catalogue.proofs.resolve.index_def.Goals as goal

pub returns : goal.returns
returns c =
    index_made c.args.tables.now (index_of c.args.index.now) c.in_ok-copy.field-0 c.as_slice.result.now c.table_named-place.result c.from.result c.index-tables-from.result
    c.as_slice-2.result.now c.as_slice-3.result.now c.columns_named.result c.cut.result
    c.in_ok-copy.ensures c.cut.ensures c.requires.small c.as_slice.ensures c.table_named-place.ensures c.from.ensures c.index-tables-from.is c.as_slice-2.ensures c.as_slice-3.ensures c.columns_named.ensures
