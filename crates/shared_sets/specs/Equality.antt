-- Tests of whether two values are equal. Each is true exactly where they are.
use Rattle.std.specs.Prelude.{Bool, false, ◌&&◌, nat_eq}
use Rattle.std.specs.Cmp.Lexicographic.{pointwise}
use Rattle.std.specs.Option.{option_eq}
use Rattle.std.proofs.Math.Bool.{beq}
use Rattle.star_model.specs.Vectors.{same_column}
use Rattle.star_model.specs.declared.columns.Site.{Site}
use Rattle.star_model.specs.declared.plans.Goal.{Goal}
use Rattle.star_model.specs.declared.plans.Require.{Require}
use Rattle.star_model.specs.declared.values.RuleValue.{RuleValue}
use Rattle.star_model.specs.declared.values.RuleValue.TheVariants as is

abbrev pub equal_site : Site → Site → Bool
equal_site s t = nat_eq s.0 t.0

abbrev pub equal_require : Require → Require → Bool
equal_require r s = ((beq r.temp s.temp && option_eq equal_site r.site s.site) && pointwise same_column r.order s.order) && pointwise same_column r.path s.path

abbrev pub equal_goal : Goal → Goal → Bool
equal_goal g h = nat_eq g.tables h.tables && nat_eq g.pushed h.pushed

abbrev pub equal_value : RuleValue → RuleValue → Bool
equal_value (is.Stream s) (is.Stream t) = nat_eq s.tables t.tables && equal_require s.require t.require
equal_value (is.Quants s) (is.Quants t) = nat_eq s t
equal_value (is.Preds s) (is.Preds t) = nat_eq s t
equal_value (is.Cols c) (is.Cols d) = pointwise same_column c d
equal_value (is.Site s) (is.Site t) = equal_site s t
equal_value (is.Index n) (is.Index m) = nat_eq n m
equal_value _ _ = false
