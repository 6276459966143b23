-- Classes are told apart by their places; a list of selectivities with an entry more.
use Rattle.std.proofs.Common.{◌≡◌, ℕ, Bool, true, false, List, [], ◌∷◌, ◌++◌, refl, ap, sym, ◌∙◌, if◌then◌else◌}
use Rattle.std.specs.Prelude.{Option, Some, None, slice_get}
use Rattle.std.specs.List.{find}
use Rattle.std.proofs.lemmas.Bool.{eqb-true, eq-eqb}
use Rattle.star_model.proofs.BoolLaws.{either_first, not_here}
use Rattle.star_model.specs.FlavourWords.{class_word, class_of_word, all_classes}
use Rattle.star_model.specs.Selectivity.{place_of_class, same_class, select_of}
use Rattle.star_model.specs.declared.rules.Class.{Class}
use Rattle.star_model.specs.declared.rules.Class.TheVariants as class
use Rattle.star_model.specs.declared.selects.SelectEntry.{SelectEntry}

in_list : (c : Class) → slice_get all_classes (place_of_class c) ≡ Some c
in_list class.EqConst = refl
in_list class.EqColumn = refl
in_list class.Ne = refl
in_list class.Less = refl

pub one_class : (c d : Class) → same_class c d ≡ true → c ≡ d
one_class c d h =
    let t : Some c ≡ Some d = sym (in_list c) ∙ ap (slice_get all_classes) (eqb-true (place_of_class c) (place_of_class d) h) ∙ in_list d in cc

named : (c : Class) → class_of_word (class_word c) ≡ Some c
unfolding class_of_word
named class.EqConst = refl
named class.EqColumn = refl
named class.Ne = refl
named class.Less = refl

pub same_class_word : (c d : Class) → class_word c ≡ class_word d → c ≡ d
same_class_word c d e = let t : Some c ≡ Some d = sym (named c) ∙ ap class_of_word e ∙ named d in cc

classes_meet : (c d e : Class) → same_class c e ≡ true → same_class d e ≡ true → same_class c d ≡ true
classes_meet c d e p q = eq-eqb _ _ (eqb-true (place_of_class c) (place_of_class e) p ∙ sym (eqb-true (place_of_class d) (place_of_class e) q))

pub select_of-push : (selects : List SelectEntry) (e : SelectEntry) (c : Class) → select_of selects e.class ≡ None
    → select_of (selects ++ e ∷ []) c ≡ (if same_class e.class c then Some e else select_of selects c)
unfolding select_of
select_of-push [] e c h = refl
select_of-push (x ∷ xs) e c h =
    let a = not_here (same_class x.class e.class) x (select_of xs e.class) h in
    ap (λ o. if same_class x.class c then Some x else o) (select_of-push xs e c a.1)
    ∙ either_first (same_class x.class c) (same_class e.class c) _ _ _ (λ p q. differ a.0 p q)
  where
    differ : same_class x.class e.class ≡ false → same_class x.class c ≡ true → same_class e.class c ≡ true → ⊥
    differ no_ p q = let yes_ = classes_meet x.class e.class c p q in cc
