use Rattle.std.proofs.Common.{map}
use Rattle.spelling.specs.Writing.{lines}
use Rattle.catalogue.specs.Catalogues.{catalogue_lexemes}
use Rattle.workload_gen.specs.CatalogueText.{statements_from}
use Rattle.workload_gen.proofs.CatalogueLaws.{LinesLeft}
use Rattle.workload_gen.proofs.catalogue_text.print_tables.Given as goal

-- the tables that are left complete the text
abbrev pub invariant-loop-index : goal.invariant-loop-index
invariant-loop-index l = LinesLeft l.out l.tables l.index (lines l.fn.out (map catalogue_lexemes (statements_from 1 l.tables)))
