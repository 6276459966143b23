-- The tests tell whether values are equal. (Comparisons that the code has cite it.)
use Rattle.std.proofs.Common.{◌≡◌, Bool, true, List, Option, Some, None, refl, ap, sym, subst}
use Rattle.std.specs.Bool.{Decides}
use Rattle.std.specs.Cmp.{booleans_Decides}
use Rattle.std.specs.Cmp.Lexicographic.{pointwise, pointwise_decides}
use Rattle.std.specs.Option.{option_eq}
use Rattle.std.proofs.lemmas.Bool.{eqb-true, eq-eqb, and_parts, and_from, true≢false}
use Rattle.star_model.specs.Vectors.{same_column}
use Rattle.star_model.specs.declared.columns.Col.{Col}
use Rattle.star_model.specs.declared.columns.Site.{Site}
use Rattle.star_model.specs.declared.plans.Goal.{Goal}
use Rattle.star_model.specs.declared.plans.Require.{Require}
use Rattle.star_model.specs.declared.values.RuleValue.{RuleValue}
use Rattle.star_model.specs.declared.values.RuleValue.TheVariants as is
use Rattle.shared_sets.specs.Equality.{equal_site, equal_require, equal_goal, equal_value}

-- a test that is true of a value and itself, and of no others, tells whether values are equal
pub from_itself : {T : Type 0} (same : T → T → Bool) → ((x y : T) → same x y ≡ true → x ≡ y) → ((x : T) → same x x ≡ true) → (x y : T) → Decides (same x y) (x ≡ y)
from_itself same to itself x y = (to x y, λ e. subst (λ z. same x z ≡ true) e (itself x))

column_decides : (c d : Col) → Decides (same_column c d) (c ≡ d)
column_decides = from_itself same_column to (λ c. and_from _ _ (eq-eqb c.quant.0 c.quant.0 refl) (eq-eqb c.column c.column refl))
  where
    to : (c d : Col) → same_column c d ≡ true → c ≡ d
    to c d h =
        let both = and_parts _ _ h in
        (λ i. record { quant = record { 0 = eqb-true c.quant.0 d.quant.0 both.0 i }; column = eqb-true c.column d.column both.1 i })

columns_decide : (c d : List Col) → Decides (pointwise same_column c d) (c ≡ d)
columns_decide = pointwise_decides column_decides

site_decides : (s t : Site) → Decides (equal_site s t) (s ≡ t)
site_decides = from_itself equal_site (λ s t h i. record { 0 = eqb-true s.0 t.0 h i }) (λ s. eq-eqb s.0 s.0 refl)

option_decides : (o p : Option Site) → Decides (option_eq equal_site o p) (o ≡ p)
option_decides = from_itself (option_eq equal_site) to itself
  where
    to : (o p : Option Site) → option_eq equal_site o p ≡ true → o ≡ p
    to None None h = refl
    to None (Some t) h = absurd (true≢false (sym h))
    to (Some s) None h = absurd (true≢false (sym h))
    to (Some s) (Some t) h = ap Some ((site_decides s t).0 h)

    itself : (o : Option Site) → option_eq equal_site o o ≡ true
    itself None = refl
    itself (Some s) = (site_decides s s).1 refl

pub require_decides : (r s : Require) → Decides (equal_require r s) (r ≡ s)
require_decides = from_itself equal_require to itself
  where
    to : (r s : Require) → equal_require r s ≡ true → r ≡ s
    to r s h =
        let path = and_parts _ _ h in
        let order = and_parts _ _ path.0 in
        let first = and_parts _ _ order.0 in
        (λ i. record {
          order = (columns_decide r.order s.order).0 order.1 i;
          site = (option_decides r.site s.site).0 first.1 i;
          temp = (booleans_Decides r.temp s.temp).0 first.0 i;
          path = (columns_decide r.path s.path).0 path.1 i;
        })

    itself : (r : Require) → equal_require r r ≡ true
    itself r =
        and_from _ _
        (and_from _ _ (and_from _ _ ((booleans_Decides r.temp r.temp).1 refl) ((option_decides r.site r.site).1 refl)) ((columns_decide r.order r.order).1 refl))
        ((columns_decide r.path r.path).1 refl)

pub goal_decides : (g h : Goal) → Decides (equal_goal g h) (g ≡ h)
goal_decides = from_itself equal_goal to (λ g. and_from _ _ (eq-eqb g.tables g.tables refl) (eq-eqb g.pushed g.pushed refl))
  where
    to : (g h : Goal) → equal_goal g h ≡ true → g ≡ h
    to g h same =
        let both = and_parts _ _ same in
        (λ i. record { tables = eqb-true g.tables h.tables both.0 i; pushed = eqb-true g.pushed h.pushed both.1 i })

pub value_decides : (v w : RuleValue) → Decides (equal_value v w) (v ≡ w)
value_decides = from_itself equal_value to itself
  where
    to : (v w : RuleValue) → equal_value v w ≡ true → v ≡ w
    to (is.Stream s) (is.Stream t) h =
        let both = and_parts _ _ h in
        (λ i. is.Stream (record { tables = eqb-true s.tables t.tables both.0 i; require = (require_decides s.require t.require).0 both.1 i }))
    to (is.Quants s) (is.Quants t) h = ap is.Quants (eqb-true s t h)
    to (is.Preds s) (is.Preds t) h = ap is.Preds (eqb-true s t h)
    to (is.Cols c) (is.Cols d) h = ap is.Cols ((columns_decide c d).0 h)
    to (is.Site s) (is.Site t) h = ap is.Site ((site_decides s t).0 h)
    to (is.Index n) (is.Index m) h = ap is.Index (eqb-true n m h)
    to v w h = absurd (true≢false (sym h))

    itself : (v : RuleValue) → equal_value v v ≡ true
    itself (is.Stream s) = and_from _ _ (eq-eqb s.tables s.tables refl) ((require_decides s.require s.require).1 refl)
    itself (is.Quants s) = eq-eqb s s refl
    itself (is.Preds s) = eq-eqb s s refl
    itself (is.Cols c) = (columns_decide c c).1 refl
    itself (is.Site s) = (site_decides s s).1 refl
    itself (is.Index n) = eq-eqb n n refl
