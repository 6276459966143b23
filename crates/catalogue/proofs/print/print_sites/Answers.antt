use Rattle.std.proofs.Common.{map}
use Rattle.catalogue.specs.Catalogues.{catalogue_lexemes}
use Rattle.catalogue.specs.Catalogues as statement
use Rattle.spelling.specs.Writing.{lines}
use Rattle.catalogue.proofs.Printed.{line_next, lines_done}
use Rattle.catalogue.proofs.print.print_sites.Goals as goal

pub loop-site-preserved : goal.loop-site-preserved
loop-site-preserved c =
    line_next statement.Site c.loop-site.out c.print_site.new.out (lines c.args.out.now (map catalogue_lexemes (map statement.Site c.args.sites.now))) c.args.sites.now c.loop-site.site-index c.site-item.result
    c.loop-site-test.true c.loop-site.invariant c.site-item.is c.in_ok-print_site.ensures

pub returns : goal.returns
returns c = lines_done statement.Site c.loop-site.out (lines c.args.out.now (map catalogue_lexemes (map statement.Site c.args.sites.now))) c.args.sites.now c.loop-site.site-index c.loop-site-test.false c.loop-site.invariant
