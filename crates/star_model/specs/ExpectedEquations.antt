-- Written by tools/cases.py.
-- What the definitions of Expected are of the values that code makes, for proofs about code.
use Rattle.std.specs.Prelude.{◌≡◌, refl, ℕ, List}
use denote.Hole.Carrier.{hidden}
use Rattle.star_model.specs.declared.rules.PlanExpr.TheBlock.{hidden-the_row-PlanExpr-0}
use Rattle.star_model.specs.declared.rules.PlanExpr.TheVariants as made
use Rattle.std.specs.Prelude.{Some, None, if◌then◌else◌}
use Rattle.star_model.specs.Costs.{same_flavour}
use Rattle.star_model.specs.declared.rules.Flavour.{Flavour}
use Rattle.star_model.specs.declared.rules.PlanExpr.{PlanExpr}
use Rattle.star_model.specs.declared.rules.ValueExpr.{ValueExpr}
use Rattle.star_model.specs.Expected.{leaf_of, unary_of, binary_of}

pub leaf_of-Reference : (f : Flavour) (p1 : List ℕ) (p2 : List ValueExpr) → leaf_of f (made.Reference p1 p2) ≡ None
unfolding leaf_of
leaf_of-Reference f p1 p2 = refl

pub leaf_of-Glue : (f : Flavour) (p1 : ValueExpr) (p2 : ValueExpr) → leaf_of f (made.Glue p1 p2) ≡ None
unfolding leaf_of
leaf_of-Glue f p1 p2 = refl

pub leaf_of-Leaf : (f : Flavour) (g : Flavour) (args : List ValueExpr) → leaf_of f (made.Leaf g args) ≡ (if same_flavour f g then Some args else None)
unfolding leaf_of
leaf_of-Leaf f g args = refl

pub leaf_of-Unary : (f : Flavour) (p1 : Flavour) (p2 : List ValueExpr) (p3 : PlanExpr) → leaf_of f (made.Unary p1 p2 p3) ≡ None
unfolding leaf_of hidden-the_row-PlanExpr-0 hidden
leaf_of-Unary f p1 p2 p3 = refl

pub leaf_of-Binary : (f : Flavour) (p1 : Flavour) (p2 : List ValueExpr) (p3 : PlanExpr) (p4 : PlanExpr) → leaf_of f (made.Binary p1 p2 p3 p4) ≡ None
unfolding leaf_of hidden-the_row-PlanExpr-0 hidden
leaf_of-Binary f p1 p2 p3 p4 = refl

pub unary_of-Reference : (f : Flavour) (p1 : List ℕ) (p2 : List ValueExpr) → unary_of f (made.Reference p1 p2) ≡ None
unfolding unary_of
unary_of-Reference f p1 p2 = refl

pub unary_of-Glue : (f : Flavour) (p1 : ValueExpr) (p2 : ValueExpr) → unary_of f (made.Glue p1 p2) ≡ None
unfolding unary_of
unary_of-Glue f p1 p2 = refl

pub unary_of-Leaf : (f : Flavour) (p1 : Flavour) (p2 : List ValueExpr) → unary_of f (made.Leaf p1 p2) ≡ None
unfolding unary_of
unary_of-Leaf f p1 p2 = refl

pub unary_of-Unary : (f : Flavour) (g : Flavour) (args : List ValueExpr) (e : PlanExpr) → unary_of f (made.Unary g args e) ≡ (if same_flavour f g then Some (args, e) else None)
unfolding unary_of hidden-the_row-PlanExpr-0 hidden
unary_of-Unary f g args e = refl

pub unary_of-Binary : (f : Flavour) (p1 : Flavour) (p2 : List ValueExpr) (p3 : PlanExpr) (p4 : PlanExpr) → unary_of f (made.Binary p1 p2 p3 p4) ≡ None
unfolding unary_of hidden-the_row-PlanExpr-0 hidden
unary_of-Binary f p1 p2 p3 p4 = refl

pub binary_of-Reference : (f : Flavour) (p1 : List ℕ) (p2 : List ValueExpr) → binary_of f (made.Reference p1 p2) ≡ None
unfolding binary_of
binary_of-Reference f p1 p2 = refl

pub binary_of-Glue : (f : Flavour) (p1 : ValueExpr) (p2 : ValueExpr) → binary_of f (made.Glue p1 p2) ≡ None
unfolding binary_of
binary_of-Glue f p1 p2 = refl

pub binary_of-Leaf : (f : Flavour) (p1 : Flavour) (p2 : List ValueExpr) → binary_of f (made.Leaf p1 p2) ≡ None
unfolding binary_of
binary_of-Leaf f p1 p2 = refl

pub binary_of-Unary : (f : Flavour) (p1 : Flavour) (p2 : List ValueExpr) (p3 : PlanExpr) → binary_of f (made.Unary p1 p2 p3) ≡ None
unfolding binary_of hidden-the_row-PlanExpr-0 hidden
binary_of-Unary f p1 p2 p3 = refl

pub binary_of-Binary : (f : Flavour) (g : Flavour) (args : List ValueExpr) (d : PlanExpr) (e : PlanExpr) → binary_of f (made.Binary g args d e) ≡ (if same_flavour f g then Some (args, d, e) else None)
unfolding binary_of hidden-the_row-PlanExpr-0 hidden
binary_of-Binary f g args d e = refl

pub ruleset leaf_of_cases = (leaf_of-Reference, leaf_of-Glue, leaf_of-Leaf, leaf_of-Unary, leaf_of-Binary)

pub ruleset unary_of_cases = (unary_of-Reference, unary_of-Glue, unary_of-Leaf, unary_of-Unary, unary_of-Binary)

pub ruleset binary_of_cases = (binary_of-Reference, binary_of-Glue, binary_of-Leaf, binary_of-Unary, binary_of-Binary)
