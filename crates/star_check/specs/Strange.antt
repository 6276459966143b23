-- Values with a variable that is none of the names that may be used.
use Rattle.std.specs.Prelude.{Bool, nat_eq}
use Rattle.std.specs.List.{list_any}
use Rattle.star_model.specs.Limits.{no_place}
use Rattle.star_model.specs.Accepted.{variables_in}
use Rattle.star_model.specs.declared.rules.ValueExpr.{ValueExpr}

abbrev pub is_strange : ValueExpr → Bool
is_strange v = list_any (nat_eq no_place) (variables_in v)
