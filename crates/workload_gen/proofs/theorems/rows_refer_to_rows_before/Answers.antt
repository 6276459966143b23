use Rattle.workload_gen.proofs.Laws.{tables_linked, tables_count}
use Rattle.workload_gen.proofs.theorems.rows_refer_to_rows_before.Goals as goal

pub returns : goal.returns
returns c = record { count = tables_count; linked = tables_linked }
