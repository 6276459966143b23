-- How deep the plans nest that code makes, against a bound.
use Rattle.std.proofs.Common.{◌≡◌, ◌+◌, ◌≤◌, ◌<◌, ℕ, Bool, true, false, nat_le, max, List, refl, arith}
use Rattle.std.specs.Prelude.{◌&&◌}
use Rattle.std.proofs.lemmas.Bool.{leb-true, leb-false, le-leb, false_from_ne_true}
use Rattle.star_model.specs.PlanExprCases.{Unary, Binary}
use Rattle.star_model.specs.declared.rules.PlanExpr.TheVariants.{Reference, Glue, Leaf}
use Rattle.star_model.specs.declared.rules.Flavour.{Flavour}
use Rattle.star_model.specs.declared.rules.ValueExpr.{ValueExpr}
use Rattle.star_model.specs.declared.rules.PlanExpr.{PlanExpr}
use Rattle.star_model.specs.declared.rules.PlanExpr.TheVariants as made
use Rattle.star_model.specs.WellFormedRules.{nesting}
use Rattle.star_model.specs.WellFormedRulesCases.{nesting-Reference, nesting-Glue, nesting-Leaf, nesting-Unary, nesting-Binary}

some_nesting : (p : PlanExpr) → 0 < nesting p
unfolding nesting
some_nesting (Reference star arguments) = omega arith
some_nesting (Glue stream preds) = omega arith
some_nesting (Leaf f arguments) = omega arith
some_nesting (Unary f arguments input) = omega arith
some_nesting (Binary f arguments left right) = omega arith

pub within-zero : (p : PlanExpr) (depth : ℕ) → depth < 1 → nat_le (nesting p) depth ≡ false
within-zero p depth none = false_from_ne_true (nat_le (nesting p) depth) (λ h. omega (arith, leb-true (nesting p) depth h, some_nesting p, none))

one : (n depth : ℕ) → n ≡ 1 → 1 ≤ depth → nat_le n depth ≡ true
one n depth is some = le-leb n depth (omega arith)

pub within-Reference : (star : List ℕ) (arguments : List ValueExpr) (depth : ℕ) → 1 ≤ depth → nat_le (nesting (made.Reference star arguments)) depth ≡ true
within-Reference star arguments depth some = one _ depth (nesting-Reference star arguments) some

pub within-Glue : (stream preds : ValueExpr) (depth : ℕ) → 1 ≤ depth → nat_le (nesting (made.Glue stream preds)) depth ≡ true
within-Glue stream preds depth some = one _ depth (nesting-Glue stream preds) some

pub within-Leaf : (f : Flavour) (arguments : List ValueExpr) (depth : ℕ) → 1 ≤ depth → nat_le (nesting (made.Leaf f arguments)) depth ≡ true
within-Leaf f arguments depth some = one _ depth (nesting-Leaf f arguments) some

less : (m n depth inside : ℕ) → m ≡ 1 + n → depth ≡ inside + 1 → nat_le m depth ≡ nat_le n inside
less m n depth inside is there = at (nat_le n inside) refl where
  at : (b : Bool) → nat_le n inside ≡ b → nat_le m depth ≡ b
  at true h = le-leb m depth (omega (arith, leb-true n inside h))
  at false h = false_from_ne_true (nat_le m depth) (λ k. omega (arith, leb-true m depth k, leb-false n inside h))

both : (m n inside : ℕ) → nat_le (max m n) inside ≡ (nat_le m inside && nat_le n inside)
both m n inside = at (nat_le m inside) (nat_le n inside) refl refl where
  at : (a b : Bool) → nat_le m inside ≡ a → nat_le n inside ≡ b → nat_le (max m n) inside ≡ (a && b)
  at true true p q = le-leb (max m n) inside (omega (arith, leb-true m inside p, leb-true n inside q))
  at true false p q = false_from_ne_true (nat_le (max m n) inside) (λ k. omega (arith, leb-true (max m n) inside k, leb-false n inside q))
  at false b p q = false_from_ne_true (nat_le (max m n) inside) (λ k. omega (arith, leb-true (max m n) inside k, leb-false m inside p))

pub within-Unary : (f : Flavour) (arguments : List ValueExpr) (input : PlanExpr) (depth inside : ℕ) → depth ≡ inside + 1
    → nat_le (nesting (made.Unary f arguments input)) depth ≡ nat_le (nesting input) inside
within-Unary f arguments input depth inside there = less _ _ depth inside (nesting-Unary f arguments input) there

pub within-Binary : (f : Flavour) (arguments : List ValueExpr) (left right : PlanExpr) (depth inside : ℕ) → depth ≡ inside + 1
    → nat_le (nesting (made.Binary f arguments left right)) depth ≡ (nat_le (nesting left) inside && nat_le (nesting right) inside)
within-Binary f arguments left right depth inside there = rw (less _ _ depth inside (nesting-Binary f arguments left right) there) (both (nesting left) (nesting right) inside)
