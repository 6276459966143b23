use Rattle.star_model.specs.declared.faults.Root.TheVariants as root
use Rattle.search_places.proofs.Sound.{root_is_there}
use Rattle.search_places.proofs.roots.root_name.Goals as goal

pub name_called-requires : goal.name_called-requires
name_called-requires c = root_is_there c.args.rules.now c.rules.result.now root.AccessRoot c.as_slice.result.now c.stands.ensures.accepted c.rules.ensures c.as_slice.ensures

pub name_called-requires-in-Some : goal.name_called-requires-in-Some
name_called-requires-in-Some c =
    root_is_there c.args.rules.now c.rules-in-Some.result.now root.JoinRoot c.as_slice-in-Some.result.now c.stands.ensures.accepted c.rules-in-Some.ensures c.as_slice-in-Some.ensures
