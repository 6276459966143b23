-- The case of a wrong kind, as it is tested.
use Rattle.std.proofs.Common.{◌≡◌, Bool, true, false, ◌||◌, List, [], ◌∷◌, map, refl, ap, sym, ◌∙◌}
use Rattle.std.specs.Prelude.{◌&&◌, not, codes}
use Rattle.std.specs.List.{list_all}
use Rattle.star_model.specs.Vectors.{same_numbers}
use Rattle.star_model.specs.Kinds.{same_kind}
use Rattle.star_model.specs.Accepted.{alternative_has_kinds, same_kinds, has_wrong_kind}
use Rattle.star_model.specs.declared.rules.Kind.{Kind}
use Rattle.star_model.specs.declared.rules.Kind.TheVariants as kind
use Rattle.star_model.specs.declared.rules.Param.{Param}
use Rattle.star_model.specs.declared.rules.StarDef.{StarDef}
use Rattle.star_model.specs.declared.rules.RuleFile.{RuleFile}
use Rattle.star_check.specs.KindTests.{are_of_kinds, is_wrong_access, is_wrong_join}

same_where : (rules : RuleFile) (params : List Param) (ks : List Kind) → same_kinds rules (map (λ p. p.kind) params) ks ≡ are_of_kinds params ks
same_where rules [] [] = refl
same_where rules [] (k ∷ ks) = refl
same_where rules (p ∷ ps) [] = refl
same_where rules (p ∷ ps) (k ∷ ks) = ap (λ b. same_kind p.kind k && b) (same_where rules ps ks)

pub wrong_kind : (rules : RuleFile) (s : StarDef)
    → has_wrong_kind rules s ≡ (not (list_all (alternative_has_kinds rules (map (λ p. p.kind) s.params)) s.alternatives) || (is_wrong_access s || is_wrong_join s))
wrong_kind rules s =
    let own : Bool = not (list_all (alternative_has_kinds rules (map (λ p. p.kind) s.params)) s.alternatives) in
    let access : Bool = same_numbers s.name (codes "AccessRoot") in
    let join : Bool = same_numbers s.name (codes "JoinRoot") in
    (λ i. (own || (access && not (same_where rules s.params (kind.Stream ∷ kind.Preds ∷ []) i))) || (join && not (same_where rules s.params (kind.Stream ∷ kind.Stream ∷ kind.Preds ∷ []) i)))
    ∙ turn own (is_wrong_access s) (is_wrong_join s)
  where
    turn : (a b c : Bool) → ((a || b) || c) ≡ (a || (b || c))
    turn true b c = refl
    turn false b c = refl

pub right_kinds : (rules : RuleFile) (s : StarDef) (kinded root : Bool)
    → kinded ≡ list_all (alternative_has_kinds rules (map (λ p. p.kind) s.params)) s.alternatives → kinded ≡ true → root ≡ (is_wrong_access s || is_wrong_join s)
    → root ≡ has_wrong_kind rules s
right_kinds rules s kinded root is passed has = has ∙ ap (λ b. b || (is_wrong_access s || is_wrong_join s)) (sym (ap not passed) ∙ ap not is) ∙ sym (wrong_kind rules s)
