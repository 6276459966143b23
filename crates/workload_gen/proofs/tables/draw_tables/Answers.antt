use Rattle.workload_gen.proofs.TableLaws.{tables_begin}
use Rattle.workload_gen.proofs.tables.draw_tables.Goals as goal

pub loop-table-init : goal.loop-table-init
loop-table-init c = record {
  complete = tables_begin c.new-tables.result c.args.seed c.args.size c.of_seed-draws.result.state c.new-tables.ensures c.of_seed-draws.ensures;
  some_rows = λ n is. cc;
}
