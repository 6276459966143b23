-- Operators are told apart by their rows in the table; a list of formulas with an entry more.
use Rattle.std.proofs.Common.{◌≡◌, ℕ, Bool, true, false, ◌&&◌, List, [], ◌∷◌, ◌++◌, refl, ap, sym, ◌∙◌, if◌then◌else◌}
use Rattle.std.specs.Prelude.{Option, Some, None, slice_get}
use Rattle.std.proofs.lemmas.Bool.{eqb-true, eq-eqb}
use Rattle.star_model.proofs.BoolLaws.{both, and, either_first, not_here}
use Rattle.star_model.specs.Costs.{row_of, flavours, same_flavour, same_which, formula_of}
use Rattle.star_model.specs.declared.costs.CostEntry.{CostEntry}
use Rattle.star_model.specs.declared.formula.Formula.{Formula}
use Rattle.star_model.specs.declared.rules.Flavour.{Flavour}
use Rattle.star_model.specs.declared.rules.Flavour.TheVariants.{AccessHeap, AccessIndex, Get, Filter, Sort, Store, Ship, Probe, JoinNl, JoinMerge, JoinHash, Intersect}
use Rattle.star_model.specs.declared.rules.Which.{Which}
use Rattle.star_model.specs.declared.rules.Which.TheVariants.{Cost, Rescan}

in_table : (f : Flavour) → slice_get flavours (row_of f) ≡ Some f
in_table AccessHeap = refl
in_table AccessIndex = refl
in_table Get = refl
in_table Filter = refl
in_table Sort = refl
in_table Store = refl
in_table Ship = refl
in_table Probe = refl
in_table JoinNl = refl
in_table JoinMerge = refl
in_table JoinHash = refl
in_table Intersect = refl

pub one_row : (f g : Flavour) → row_of f ≡ row_of g → f ≡ g
one_row f g e = let t : Some f ≡ Some g = sym (in_table f) ∙ ap (slice_get flavours) e ∙ in_table g in cc

pub one_flavour : (f g : Flavour) → same_flavour f g ≡ true → f ≡ g
one_flavour f g h = one_row f g (eqb-true (row_of f) (row_of g) h)

flavours_meet : (f g h : Flavour) → same_flavour f h ≡ true → same_flavour g h ≡ true → same_flavour f g ≡ true
flavours_meet f g h p q = eq-eqb _ _ (eqb-true (row_of f) (row_of h) p ∙ sym (eqb-true (row_of g) (row_of h) q))

whichs_meet : (v w x : Which) → same_which v x ≡ true → same_which w x ≡ true → same_which v w ≡ true
whichs_meet Cost Cost x p q = refl
whichs_meet Rescan Rescan x p q = refl
whichs_meet Cost Rescan Cost p q = cc
whichs_meet Cost Rescan Rescan p q = cc
whichs_meet Rescan Cost Cost p q = cc
whichs_meet Rescan Cost Rescan p q = cc

pub formula_of-push : (costs : List CostEntry) (e : CostEntry) (f : Flavour) (w : Which) → formula_of costs e.flavour e.which ≡ None
    → formula_of (costs ++ e ∷ []) f w ≡ (if same_flavour e.flavour f && same_which e.which w then Some e.formula else formula_of costs f w)
unfolding formula_of
formula_of-push [] e f w h = refl
formula_of-push (x ∷ xs) e f w h =
    let a = not_here (same_flavour x.flavour e.flavour && same_which x.which e.which) x.formula (formula_of xs e.flavour e.which) h in
    ap (λ o. if same_flavour x.flavour f && same_which x.which w then Some x.formula else o) (formula_of-push xs e f w a.1)
    ∙ either_first (same_flavour x.flavour f && same_which x.which w) (same_flavour e.flavour f && same_which e.which w) _ _ _ (λ p q. differ a.0 p q)
  where
    differ : (same_flavour x.flavour e.flavour && same_which x.which e.which) ≡ false → (same_flavour x.flavour f && same_which x.which w) ≡ true → (same_flavour e.flavour f && same_which e.which w) ≡ true → ⊥
    differ no_ p q =
        let b = both (same_flavour x.flavour f) (same_which x.which w) p in let c = both (same_flavour e.flavour f) (same_which e.which w) q in
        let yes_ = and _ _ (flavours_meet x.flavour e.flavour f b.0 c.0) (whichs_meet x.which e.which w b.1 c.1) in
        cc
