use Rattle.std.proofs.Common.{◌-◌, ◌<◌}
use Rattle.std.specs.Option.{ForSome}
use Rattle.workload_gen.specs.Tables.{drawn_tables}
use Rattle.workload_gen.proofs.TableLaws.{TablesLeft}
use Rattle.workload_gen.proofs.tables.draw_tables.Given as goal

-- those that are left complete the whole, and the table before the next has rows
abbrev pub invariant-loop-table : goal.invariant-loop-table
invariant-loop-table l = record {
  complete : TablesLeft l.tables (l.size - l._table) l.before l.draws.state (drawn_tables l.seed l.size);
  some_rows : ForSome l.before (λ rows_before. 0 < rows_before);
}
