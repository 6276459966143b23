-- The kinds of a reference's arguments, and of a root's parameters.
use Rattle.std.specs.Prelude.{ℕ, Bool, true, false, ◌&&◌, not, List, [], ◌∷◌, map, codes}
use Rattle.std.specs.Option.{option_map_or}
use Rattle.star_model.specs.Stars.{star_named}
use Rattle.star_model.specs.Vectors.{same_numbers}
use Rattle.star_model.specs.Kinds.{have_kinds, same_kind}
use Rattle.star_model.specs.declared.rules.Kind.{Kind}
use Rattle.star_model.specs.declared.rules.Kind.TheVariants as kind
use Rattle.star_model.specs.declared.rules.Param.{Param}
use Rattle.star_model.specs.declared.rules.StarDef.{StarDef}
use Rattle.star_model.specs.declared.rules.ValueExpr.{ValueExpr}
use Rattle.star_model.specs.declared.rules.RuleFile.{RuleFile}

-- whether the arguments of a reference have the kinds of its STAR's parameters
abbrev pub reference_has_kinds : RuleFile → List Kind → List ℕ → List ValueExpr → Bool
reference_has_kinds rules ks star args = have_kinds ks (option_map_or (λ s. map (λ p. p.kind) s.params) (star_named rules star) []) args

-- whether the parameters have these kinds, and there are no others
abbrev pub are_of_kinds : List Param → List Kind → Bool
are_of_kinds [] [] = true
are_of_kinds [] (k ∷ ks) = false
are_of_kinds (p ∷ ps) [] = false
are_of_kinds (p ∷ ps) (k ∷ ks) = same_kind p.kind k && are_of_kinds ps ks

abbrev pub is_wrong_access : StarDef → Bool
is_wrong_access s = same_numbers s.name (codes "AccessRoot") && not (are_of_kinds s.params (kind.Stream ∷ kind.Preds ∷ []))

abbrev pub is_wrong_join : StarDef → Bool
is_wrong_join s = same_numbers s.name (codes "JoinRoot") && not (are_of_kinds s.params (kind.Stream ∷ kind.Stream ∷ kind.Preds ∷ []))
