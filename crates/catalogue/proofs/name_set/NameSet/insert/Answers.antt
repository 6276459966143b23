use Rattle.std.proofs.Common.{◌∙◌, sym, ap, not}
use Rattle.catalogue.proofs.NameLists.{among_names, added_name}
use Rattle.catalogue.proofs.name_set.NameSet.insert.Goals as goal

pub returns-clause-ok : goal.returns-clause-ok
returns-clause-ok c = rw (sym c.self.view_is) (added_name c.args.name c.self.inside.names.keys c.insert.new.self.keys c.in_ok-new.ensures.keys)

pub returns-clause-new : goal.returns-clause-new
returns-clause-new c = rw (sym c.self.view_is) (c.in_ok-new.ensures.added ∙ ap not (among_names c.args.name.now c.self.inside.names.keys))
