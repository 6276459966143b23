use Rattle.std.proofs.Common.{sym, ◌≡◌, Some}
use Rattle.star_model.specs.Stars.{star_named}
use Rattle.star_model.specs.Vectors.{same_numbers}
use Rattle.star_model.specs.declared.rules.StarDef.{StarDef}
use Rattle.star_model.proofs.Laws.{same_are}
use Rattle.search_places.proofs.Finding.{found_in}
use Rattle.search_places.proofs.roots.name_called.Goals as goal

pub returns : goal.returns
returns c =
    let star = c.in-Some.star.now in
    let letters = c.args.letters.now in
    let found : star_named c.args.rules.now letters ≡ Some star = sym c.in-Some.ensures in
    same_are star.name letters (found_in (λ (s : StarDef). same_numbers s.name letters) c.args.rules.now.stars star found).1
