use Rattle.std.proofs.Common.{map}
use Rattle.star_model.specs.WellFormed.{WellFormedIndex}
use Rattle.catalogue.specs.Catalogues.{catalogue_lexemes, index_statement}
use Rattle.spelling.specs.Writing.{lines}
use Rattle.catalogue.proofs.Printed.{line_next, lines_done, each_at}
use Rattle.catalogue.proofs.print.print_indexes.Goals as goal

pub print_index-requires : goal.print_index-requires
print_index-requires c = each_at (WellFormedIndex c.args.catalogue.now.tables) c.args.catalogue.now.indexes c.loop-index.index-index c.index-item.result c.requires.indexes (rw c.as_slice-index-items.ensures at c.loop-index-test.true) (rw c.as_slice-index-items.ensures at c.index-item.is)

pub loop-index-preserved : goal.loop-index-preserved
loop-index-preserved c =
    line_next (index_statement c.args.catalogue.now) c.loop-index.out c.print_index.new.out (lines c.args.out.now (map catalogue_lexemes (map (index_statement c.args.catalogue.now) c.args.catalogue.now.indexes))) c.args.catalogue.now.indexes c.loop-index.index-index c.index-item.result
    (rw c.as_slice-index-items.ensures at c.loop-index-test.true) c.loop-index.invariant (rw c.as_slice-index-items.ensures at c.index-item.is) c.in_ok-print_index.ensures

pub returns : goal.returns
returns c = lines_done (index_statement c.args.catalogue.now) c.loop-index.out (lines c.args.out.now (map catalogue_lexemes (map (index_statement c.args.catalogue.now) c.args.catalogue.now.indexes))) c.args.catalogue.now.indexes c.loop-index.index-index (rw c.as_slice-index-items.ensures at c.loop-index-test.false) c.loop-index.invariant
