use Rattle.std.proofs.Common.{map}
use Rattle.spelling.specs.Writing.{lines}
use Rattle.catalogue.specs.Catalogues.{catalogue_lexemes}
use Rattle.workload_gen.specs.CatalogueText.{statements_from}
use Rattle.workload_gen.proofs.CatalogueLaws.{lines_next, lines_done}
use Rattle.workload_gen.proofs.catalogue_text.print_tables.Goals as goal

pub loop-index-preserved : goal.loop-index-preserved
loop-index-preserved c =
    let all = lines c.args.out.now (map catalogue_lexemes (statements_from 1 c.args.tables.now)) in
    lines_next c.loop-index.out c.print_table_and_index.new.out all c.args.tables.now c.loop-index.index c.index-tables-index.result
    c.loop-index-test.true c.loop-index.invariant c.index-tables-index.is c.in_ok-print_table_and_index.ensures

pub returns : goal.returns
returns c =
    lines_done c.loop-index.out (lines c.args.out.now (map catalogue_lexemes (statements_from 1 c.args.tables.now))) c.args.tables.now c.loop-index.index
    c.loop-index-test.false c.loop-index.invariant
