use Rattle.std.proofs.Common.{map}
use Rattle.catalogue.specs.Catalogues.{catalogue_lexemes, index_statement}
use Rattle.spelling.specs.Writing.{lines}
use Rattle.catalogue.proofs.Printed.{LinesLeft}
use Rattle.catalogue.proofs.print.print_indexes.Given as goal

-- those that are left complete the text
abbrev pub invariant-loop-index : goal.invariant-loop-index
invariant-loop-index l = LinesLeft (index_statement l.catalogue) l.out l.catalogue.indexes l.index-index (lines l.fn.out (map catalogue_lexemes (map (index_statement l.catalogue) l.catalogue.indexes)))
