-- The test by which a predicate is found to compare two types.
use Rattle.std.specs.Prelude.{Bool, true, false, Option, Some}
use Rattle.star_model.specs.declared.catalogue.ColType.{ColType}
use Rattle.star_model.specs.declared.catalogue.ColType.TheVariants as type
use Rattle.star_model.specs.declared.query.Query.{Query}
use Rattle.star_model.specs.declared.query.Pred.{Pred}
use Rattle.star_model.specs.WellFormed.{type_of, type_of_operand}

abbrev pub are_two : Option ColType → Option ColType → Bool
are_two (Some type.Int) (Some type.Text) = true
are_two (Some type.Text) (Some type.Int) = true
are_two _ _ = false

abbrev pub has_two_types : Query → Pred → Bool
has_two_types q p = are_two (type_of q p.left) (type_of_operand q p.right)
