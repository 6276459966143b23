-- What the test of a body's kinds is, case by case.
use Rattle.std.proofs.Common.{◌≡◌, ℕ, Bool, true, false, List, [], ◌∷◌, ◌++◌, refl, ◌∙◌}
use Rattle.std.specs.Prelude.{◌&&◌}
use Rattle.std.specs.List.{list_all}
use Rattle.std.proofs.lemmas.List.Folds.{list_all-append}
use Rattle.star_model.specs.Kinds.{asks, kind_of, argument_kinds, have_kinds}
use Rattle.star_model.specs.Accepted.{references_in, operators_in, glues_in, body_has_kinds}
use Rattle.star_model.specs.AcceptedEquations.{references_in-Reference, references_in-Glue, references_in-Leaf, references_in-Unary, references_in-Binary, operators_in-Reference, operators_in-Glue, operators_in-Leaf, operators_in-Unary, operators_in-Binary, glues_in-Reference, glues_in-Glue, glues_in-Leaf, glues_in-Unary, glues_in-Binary}
use Rattle.star_model.specs.declared.rules.PlanExpr.{PlanExpr}
use Rattle.star_model.specs.declared.rules.PlanExpr.TheVariants as made
use Rattle.star_model.specs.declared.rules.ValueExpr.{ValueExpr}
use Rattle.star_model.specs.declared.rules.Flavour.{Flavour}
use Rattle.star_model.specs.declared.rules.Kind.{Kind}
use Rattle.star_model.specs.declared.rules.Kind.TheVariants as kind
use Rattle.star_model.specs.declared.rules.RuleFile.{RuleFile}
use Rattle.star_check.specs.KindTests.{reference_has_kinds}

-- ---- the three tests, over the lists of what stands in a body

three : (rules : RuleFile) (ks : List Kind) (p : PlanExpr) (rs : List (List ℕ × List ValueExpr)) (os : List (Flavour × List ValueExpr)) (gs : List (ValueExpr × ValueExpr))
    → references_in p ≡ rs → operators_in p ≡ os → glues_in p ≡ gs
    → body_has_kinds rules ks p
    ≡ ((list_all (λ r. reference_has_kinds rules ks r.0 r.1) rs && list_all (λ o. have_kinds ks (argument_kinds o.0) o.1) os)
    && list_all (λ g. asks kind.Stream (kind_of ks g.0) && asks kind.Preds (kind_of ks g.1)) gs)
three rules ks p rs os gs hr ho hg =
    λ i. (list_all (λ r. reference_has_kinds rules ks r.0 r.1) (hr i) && list_all (λ o. have_kinds ks (argument_kinds o.0) o.1) (ho i)) && list_all (λ g. asks kind.Stream (kind_of ks g.0) && asks kind.Preds (kind_of ks g.1)) (hg i)

-- ---- the cases

and_true : (a : Bool) → (a && true) ≡ a
and_true true = refl
and_true false = refl

pub body_has_kinds-Reference : (rules : RuleFile) (ks : List Kind) (star : List ℕ) (args : List ValueExpr) → body_has_kinds rules ks (made.Reference star args) ≡ reference_has_kinds rules ks star args
body_has_kinds-Reference rules ks star args =
    three rules ks (made.Reference star args) ((star, args) ∷ []) [] [] (references_in-Reference star args) (operators_in-Reference star args) (glues_in-Reference star args)
    ∙ and_true ((reference_has_kinds rules ks star args && true) && true) ∙ and_true (reference_has_kinds rules ks star args && true) ∙ and_true (reference_has_kinds rules ks star args)

pub body_has_kinds-Glue : (rules : RuleFile) (ks : List Kind) (t p : ValueExpr)
    → body_has_kinds rules ks (made.Glue t p) ≡ (asks kind.Stream (kind_of ks t) && asks kind.Preds (kind_of ks p))
body_has_kinds-Glue rules ks t p =
    three rules ks (made.Glue t p) [] [] ((t, p) ∷ []) (references_in-Glue t p) (operators_in-Glue t p) (glues_in-Glue t p)
    ∙ and_true (asks kind.Stream (kind_of ks t) && asks kind.Preds (kind_of ks p))

pub body_has_kinds-Leaf : (rules : RuleFile) (ks : List Kind) (f : Flavour) (args : List ValueExpr)
    → body_has_kinds rules ks (made.Leaf f args) ≡ have_kinds ks (argument_kinds f) args
body_has_kinds-Leaf rules ks f args =
    three rules ks (made.Leaf f args) [] ((f, args) ∷ []) [] (references_in-Leaf f args) (operators_in-Leaf f args) (glues_in-Leaf f args)
    ∙ and_true (have_kinds ks (argument_kinds f) args && true) ∙ and_true (have_kinds ks (argument_kinds f) args)

pub body_has_kinds-Unary : (rules : RuleFile) (ks : List Kind) (f : Flavour) (args : List ValueExpr) (e : PlanExpr)
    → body_has_kinds rules ks (made.Unary f args e) ≡ (have_kinds ks (argument_kinds f) args && body_has_kinds rules ks e)
body_has_kinds-Unary rules ks f args e =
    three rules ks (made.Unary f args e) (references_in e) ((f, args) ∷ operators_in e) (glues_in e) (references_in-Unary f args e) (operators_in-Unary f args e) (glues_in-Unary f args e)
    ∙ shuffle
    (have_kinds ks (argument_kinds f) args)
    (list_all (λ r. reference_has_kinds rules ks r.0 r.1) (references_in e))
    (list_all (λ o. have_kinds ks (argument_kinds o.0) o.1) (operators_in e))
    (list_all (λ g. asks kind.Stream (kind_of ks g.0) && asks kind.Preds (kind_of ks g.1)) (glues_in e))
  where
    shuffle : (q a b c : Bool) → ((a && (q && b)) && c) ≡ (q && ((a && b) && c))
    shuffle true a b c = refl
    shuffle false true b c = refl
    shuffle false false b c = refl

pub body_has_kinds-Binary : (rules : RuleFile) (ks : List Kind) (f : Flavour) (args : List ValueExpr) (d e : PlanExpr)
    → body_has_kinds rules ks (made.Binary f args d e) ≡ ((have_kinds ks (argument_kinds f) args && body_has_kinds rules ks d) && body_has_kinds rules ks e)
body_has_kinds-Binary rules ks f args d e =
    let q : Bool = have_kinds ks (argument_kinds f) args in
    let P : (List ℕ × List ValueExpr) → Bool = λ r. reference_has_kinds rules ks r.0 r.1 in
    let Q : (Flavour × List ValueExpr) → Bool = λ o. have_kinds ks (argument_kinds o.0) o.1 in
    let R : (ValueExpr × ValueExpr) → Bool = λ g. asks kind.Stream (kind_of ks g.0) && asks kind.Preds (kind_of ks g.1) in
    three rules ks (made.Binary f args d e) (references_in d ++ references_in e) ((f, args) ∷ (operators_in d ++ operators_in e)) (glues_in d ++ glues_in e) (references_in-Binary f args d e) (operators_in-Binary f args d e) (glues_in-Binary f args d e)
    ∙ (λ i. (list_all-append P (references_in d) (references_in e) i && (q && list_all-append Q (operators_in d) (operators_in e) i)) && list_all-append R (glues_in d) (glues_in e) i)
    ∙ shuffle q (list_all P (references_in d)) (list_all P (references_in e)) (list_all Q (operators_in d)) (list_all Q (operators_in e)) (list_all R (glues_in d)) (list_all R (glues_in e))
  where
    shuffle : (q a d b e c f : Bool) → (((a && d) && (q && (b && e))) && (c && f)) ≡ ((q && ((a && b) && c)) && ((d && e) && f))
    shuffle true true true true e true f = refl
    shuffle true true true true true false f = refl
    shuffle true true true true false false f = refl
    shuffle true true true false e c f = refl
    shuffle true true false true e true f = refl
    shuffle true true false true e false f = refl
    shuffle true true false false e c f = refl
    shuffle true false d b e c f = refl
    shuffle false true true b e c f = refl
    shuffle false true false b e c f = refl
    shuffle false false d b e c f = refl

pub ruleset bodies = (body_has_kinds-Reference, body_has_kinds-Glue, body_has_kinds-Leaf, body_has_kinds-Unary, body_has_kinds-Binary)
