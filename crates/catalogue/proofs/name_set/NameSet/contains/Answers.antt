use Rattle.std.proofs.Common.{◌∙◌, sym}
use Rattle.catalogue.proofs.NameLists.{among_names}
use Rattle.catalogue.proofs.name_set.NameSet.contains.Goals as goal

pub returns : goal.returns
returns c = rw (sym c.self.view_is) (c.contains.ensures ∙ among_names c.args.name.now c.self.inside.names.keys)
