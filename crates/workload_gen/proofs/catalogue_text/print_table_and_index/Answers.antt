use Rattle.workload_gen.proofs.CatalogueLaws.{with_index, without_index}
use Rattle.workload_gen.proofs.catalogue_text.print_table_and_index.Goals as goal

pub returns-in_ok-print_index : goal.returns-in_ok-print_index
returns-in_ok-print_index c =
    with_index c.args.out.now c.print_table.new.out c.print_index.new.out c.args.number c.args.table.now c.if-table.true c.in_ok-print_table.ensures c.in_ok-print_index.ensures

pub returns-else-table : goal.returns-else-table
returns-else-table c = without_index c.args.out.now c.print_table.new.out c.args.number c.args.table.now c.if-table.false c.in_ok-print_table.ensures
