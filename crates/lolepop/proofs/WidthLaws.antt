-- A formula that names no width has one value, whatever the widths are.
use Rattle.std.proofs.Common.{◌≡◌, Bool, true, false, not, ◌&&◌, refl, if◌then◌else◌}
use Rattle.std.specs.Prelude.{min, max}
use Rattle.star_model.specs.declared.formula.Formula.TheVariants.{Number, Variable}
use Rattle.star_model.specs.FormulaCases.{Add, Sub, Mul, Div, Min, Max, If}
use Rattle.star_model.specs.Formulas.{value, entry, compares}
use Rattle.star_model.specs.Numbers.{cut_sum, cut_difference, cut_product, cut_quotient}
use Rattle.star_model.specs.declared.formula.Formula.{Formula}
use Rattle.star_model.specs.declared.formula.Vars.{Vars}
use Rattle.star_model.specs.declared.formula.Var.{Var}
use Rattle.star_model.specs.declared.formula.Var.TheVariants as var
use Rattle.lolepop.specs.Widths.{is_width, lacks_width, without_widths}

both : (a b : Bool) → (a && b) ≡ true → (a ≡ true) × (b ≡ true)
both true b h = (refl, h)
both false b h = cc

entry_same : (x : Var) (v : Vars) → not (is_width x) ≡ true → entry x (without_widths v) ≡ entry x v
entry_same var.Cost1 v h = refl
entry_same var.Rescan1 v h = refl
entry_same var.Card1 v h = refl
entry_same var.Width1 v h = cc
entry_same var.Cost2 v h = refl
entry_same var.Rescan2 v h = refl
entry_same var.Card2 v h = refl
entry_same var.Width2 v h = cc
entry_same var.Card v h = refl
entry_same var.Width v h = cc
entry_same var.Rows v h = refl
entry_same var.Pages v h = refl
entry_same var.Preds v h = refl
entry_same var.Cpu v h = refl
entry_same var.Net v h = refl
entry_same var.One v h = refl
entry_same var.Distinct1 v h = refl
entry_same var.Rows1 v h = refl
entry_same var.Distinct2 v h = refl
entry_same var.Rows2 v h = refl

pub value_same : (f : Formula) (v : Vars) → lacks_width f ≡ true → value f (without_widths v) ≡ value f v
unfolding lacks_width value
value_same (Number n) v h = refl
value_same (Variable x) v h = entry_same x v h
value_same (Add a b) v h = let p = both _ _ h in let x = value_same a v p.0 in let y = value_same b v p.1 in (λ i. cut_sum (x i) (y i))
value_same (Sub a b) v h = let p = both _ _ h in let x = value_same a v p.0 in let y = value_same b v p.1 in (λ i. cut_difference (x i) (y i))
value_same (Mul a b) v h = let p = both _ _ h in let x = value_same a v p.0 in let y = value_same b v p.1 in (λ i. cut_product (x i) (y i))
value_same (Div a b) v h = let p = both _ _ h in let x = value_same a v p.0 in let y = value_same b v p.1 in (λ i. cut_quotient (x i) (y i))
value_same (Min a b) v h = let p = both _ _ h in let x = value_same a v p.0 in let y = value_same b v p.1 in (λ i. min (x i) (y i))
value_same (Max a b) v h = let p = both _ _ h in let x = value_same a v p.0 in let y = value_same b v p.1 in (λ i. max (x i) (y i))
value_same (If t x y a b) v h =
    let p = both _ _ h in let q = both _ _ p.0 in let r = both _ _ q.0 in
    let ex = value_same x v r.0 in let ey = value_same y v r.1 in let ea = value_same a v q.1 in let eb = value_same b v p.1 in
    (λ i. if compares t (ex i) (ey i) then ea i else eb i)
