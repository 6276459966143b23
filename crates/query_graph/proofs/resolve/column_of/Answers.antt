use Rattle.std.proofs.Common.{arith, sym}
use Rattle.query_graph.specs.Words.{said_column}
use Rattle.query_graph.proofs.Formed.{formed_table}
use Rattle.query_graph.proofs.Resolving.{found_at, column_of_is}
use Rattle.query_graph.proofs.resolve.column_of.Goals as goal

pub overflow_cast-result-2 : goal.overflow_cast-result-2
overflow_cast-result-2 c =
    let read = c.in_ok-table.ensures.lookup in
    let at = found_at c.as_slice-2.result.now c.from.result c.in_ok-table.table.now read.3.0 read.1 in
    let formed = formed_table c.args.catalogue.now c.from.result c.in_ok-table.table.now c.requires.catalogue (rw c.as_slice-2.ensures at at) in
    omega (arith, formed.some_columns.1, c.in_ok-column.ensures.within)

pub returns : goal.returns
returns c =
    let quantifier = c.in_ok-quantifier.ensures.lookup in
    let table = c.in_ok-table.ensures.lookup in
    sym (column_of_is c.args.catalogue.now c.args.quantifiers.now (said_column c.args.column.now) c.in_ok-quant.quant c.in_ok-quantifier.quantifier.now c.in_ok-table.table.now c.in_ok-column.column
    (sym (rw c.as_slice.ensures at c.in_ok-quant.ensures.place))
    (found_at c.args.quantifiers.now c.in_ok-quant.quant c.in_ok-quantifier.quantifier.now quantifier.3.0 quantifier.1)
    (rw (c.as_slice-2.ensures, c.from.ensures) at (found_at c.as_slice-2.result.now c.from.result c.in_ok-table.table.now table.3.0 table.1))
    (sym (rw c.as_slice-3.ensures at c.in_ok-column.ensures.place)))
