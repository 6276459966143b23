use Rattle.std.proofs.Common.{arith}
use Rattle.workload_runs.proofs.LoadedTables.{one_more, own_records, rows_are, tables_are}
use Rattle.workload_runs.proofs.loading.load_tables.Goals as goal

pub load_table-requires-clause-rows : goal.load_table-requires-clause-rows
load_table-requires-clause-rows c =
    own_records c.args.catalogue.now c.args.records c.loop-number.records c.loop-number.loaded c.loop-number.number c.take_records-own.result c.loop-number.invariant
    c.requires.rows c.take_records-own.ensures.records

pub loop-number-preserved : goal.loop-number-preserved
loop-number-preserved c =
    rw (c.take_records-own.ensures.left, c.in_ok-push.ensures.ok)
    (one_more c.args.catalogue.now c.args.records c.loop-number.records c.loop-number.loaded c.loop-number.number c.take_records-own.result c.in_ok-table.table
    c.loop-number.invariant c.take_records-own.ensures.records c.in_ok-table.ensures)

pub returns-clause-rows : goal.returns-clause-rows
returns-clause-rows c =
    rows_are c.args.catalogue.now c.args.records c.loop-number.records c.loop-number.loaded c.loop-number.number c.loop-number.invariant
    (omega (arith, c.loop-number-test.false, c.len-number-end.ensures))

pub returns-clause-all : goal.returns-clause-all
returns-clause-all c =
    tables_are c.args.catalogue.now c.args.records c.loop-number.records (record { loaded = c.loop-number.loaded }) c.loop-number.number c.loop-number.invariant
    (omega (arith, c.loop-number-test.false, c.len-number-end.ensures)) c.requires.each
