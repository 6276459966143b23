use Rattle.std.proofs.Common.{◌∙◌}
use Rattle.workload_gen.proofs.CatalogueLaws.{catalogue_is}
use Rattle.workload_gen.proofs.catalogue_text.catalogue_text.Goals as goal

pub returns : goal.returns
returns c = c.into_bytes.ensures ∙ catalogue_is c.print_site.new.out c.print_tables.new.out c.args.tables.now (rw c.new-out.ensures at c.in_ok-print_site.ensures) c.in_ok-print_tables.ensures
