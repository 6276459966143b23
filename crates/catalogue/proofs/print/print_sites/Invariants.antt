use Rattle.std.proofs.Common.{map}
use Rattle.catalogue.specs.Catalogues.{catalogue_lexemes}
use Rattle.catalogue.specs.Catalogues as statement
use Rattle.spelling.specs.Writing.{lines}
use Rattle.catalogue.proofs.Printed.{LinesLeft}
use Rattle.catalogue.proofs.print.print_sites.Given as goal

-- those that are left complete the text
abbrev pub invariant-loop-site : goal.invariant-loop-site
invariant-loop-site l = LinesLeft statement.Site l.out l.sites l.site-index (lines l.fn.out (map catalogue_lexemes (map statement.Site l.sites)))
