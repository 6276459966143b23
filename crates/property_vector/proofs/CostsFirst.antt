-- The tests of `is_better` in another order.
use Rattle.std.proofs.Common.{◌≡◌, Bool, true, false, ◌&&◌, refl, sym}
use Rattle.std.specs.Prelude.{not, ◌||◌, nat_eq, nat_le}
use Rattle.star_model.specs.Vectors.{begins, same_relation, is_better}
use Rattle.star_model.specs.declared.plans.Props.{Props}
use Rattle.property_vector.specs.Comparing.{is_no_worse}

with_true : (b : Bool) → b && true ≡ b
with_true true = refl
with_true false = refl

with_false : (b : Bool) → b && false ≡ false
with_false true = refl
with_false false = refl

first_last : (r s c d o p t : Bool) → r && s && c && d && o && p && t ≡ (s && c && d && o && p && t) && r
first_last true s c d o p t = sym (with_true (s && c && d && o && p && t))
first_last false s c d o p t = sym (with_false (s && c && d && o && p && t))

pub better_read : (v w : Props) → is_better v w ≡ is_no_worse v w && same_relation v w
unfolding is_better
better_read v w =
    first_last (same_relation v w) (nat_eq v.site.0 w.site.0) (nat_le v.cost w.cost) (nat_le v.rescan w.rescan) (begins w.order v.order) (begins w.path v.path) (not w.temp || v.temp)
