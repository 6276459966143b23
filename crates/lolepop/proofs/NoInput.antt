-- The width of a row where there is no input.
use Rattle.std.proofs.Common.{◌≡◌, [], refl}
use Rattle.star_model.specs.Operators.{width_of}
use Rattle.star_model.specs.Sets.{has, members, places}
use Rattle.star_model.specs.declared.query.Query.{Query}

pub width_of_nothing : (q : Query) → width_of q [] ≡ 0
unfolding width_of members has places
width_of_nothing q = refl
