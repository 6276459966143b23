-- A formula passes exactly where no node offends.
use Rattle.std.proofs.Common.{◌≡◌, ℕ, ◌+◌, suc, Bool, true, false, not, ◌&&◌, ◌||◌, List, [], ◌∷◌, ◌++◌, length, cond, nat_lt, refl, ap, sym, ◌∙◌, arith, ◌↔◌}
use Rattle.std.specs.Prelude.{Some, None}
use Rattle.std.specs.List.{list_any, position_or_len}
use Rattle.std.specs.Option.{option_map}
use Rattle.std.proofs.lemmas.List.Folds.{list_any-append}
use Rattle.star_model.proofs.BoolLaws.{both, and, not_true}
use Rattle.star_model.specs.FormulaCases.{Number, Variable, Add, Sub, Mul, Div, Min, Max, If}
use Rattle.star_model.specs.Monotone.{is_free, passes, nodes, offends, first_offending}
use Rattle.star_model.specs.declared.formula.Formula.{Formula}

free_passes : (f : Formula) → is_free f ≡ true → passes f ≡ true
unfolding is_free passes
free_passes (Number n) h = refl
free_passes (Variable x) h = refl
free_passes (Add a b) h = let p = both _ _ h in and _ _ (free_passes a p.0) (free_passes b p.1)
free_passes (Sub a b) h = let p = both _ _ h in and _ _ (free_passes a p.0) p.1
free_passes (Mul a b) h = let p = both _ _ h in and _ _ (free_passes a p.0) (free_passes b p.1)
free_passes (Div a b) h = let p = both _ _ h in and _ _ (free_passes a p.0) p.1
free_passes (Min a b) h = let p = both _ _ h in and _ _ (free_passes a p.0) (free_passes b p.1)
free_passes (Max a b) h = let p = both _ _ h in and _ _ (free_passes a p.0) (free_passes b p.1)
free_passes (If t x y a b) h =
    let p = both _ _ h in let q = both _ _ p.0 in
    and _ _ (and _ _ q.0 (free_passes a q.1)) (free_passes b p.1)

none_of_two : (a b : Bool) → not (a || b) ≡ (not a && not b)
none_of_two true b = refl
none_of_two false b = refl

-- of a difference or a quotient: its own offence, and those of its parts
of_second : (free a b : Bool) → (free ≡ true → not b ≡ true) → not (not free || (a || b)) ≡ (not a && free)
of_second true true b h = refl
of_second true false true h = let e : false ≡ true = h refl in cc
of_second true false false h = refl
of_second false true b h = refl
of_second false false b h = refl

-- of an `if`
of_if : (fx fy x y a b : Bool) → (fx ≡ true → not x ≡ true) → (fy ≡ true → not y ≡ true) → not (not (fx && fy) || (x || y || a || b)) ≡ (fx && fy && not a && not b)
of_if true true true y a b h k = let e : false ≡ true = h refl in cc
of_if true true false true a b h k = let e : false ≡ true = k refl in cc
of_if true true false false a b h k = none_of_two a b
of_if true false x y a b h k = refl
of_if false fy x y a b h k = refl

any_offends : List Formula → Bool
any_offends fs = list_any offends fs

any_of_two : (a b : List Formula) → any_offends (a ++ b) ≡ (any_offends a || any_offends b)
unfolding any_offends
any_of_two a b = list_any-append offends a b

any_more : (f : Formula) (fs : List Formula) → any_offends (f ∷ fs) ≡ (offends f || any_offends fs)
unfolding any_offends
any_more f fs = refl

any_none : any_offends [] ≡ false
unfolding any_offends
any_none = refl

of_parts : (f : Formula) (a b : List Formula) → offends f ≡ false → not (any_offends (f ∷ (a ++ b))) ≡ (not (any_offends a) && not (any_offends b))
of_parts f a b h = ap not (any_more f (a ++ b)) ∙ ap (λ o. not (o || any_offends (a ++ b))) h ∙ ap not (any_of_two a b) ∙ none_of_two _ _

clean : (f : Formula) → not (any_offends (nodes f)) ≡ passes f
unfolding nodes offends passes
clean (Number n) = ap not (any_more (Number n) [] ∙ any_none)
clean (Variable x) = ap not (any_more (Variable x) [] ∙ any_none)
clean (Add a b) = of_parts (Add a b) (nodes a) (nodes b) refl ∙ (λ i. clean a i && clean b i)
clean (Sub a b) =
    ap not (any_more (Sub a b) (nodes a ++ nodes b)) ∙ ap (λ o. not (not (is_free b) || o)) (any_of_two (nodes a) (nodes b))
    ∙ of_second (is_free b) _ _ (λ h. clean b ∙ free_passes b h) ∙ ap (λ c. c && is_free b) (clean a)
clean (Mul a b) = of_parts (Mul a b) (nodes a) (nodes b) refl ∙ (λ i. clean a i && clean b i)
clean (Div a b) =
    ap not (any_more (Div a b) (nodes a ++ nodes b)) ∙ ap (λ o. not (not (is_free b) || o)) (any_of_two (nodes a) (nodes b))
    ∙ of_second (is_free b) _ _ (λ h. clean b ∙ free_passes b h) ∙ ap (λ c. c && is_free b) (clean a)
clean (Min a b) = of_parts (Min a b) (nodes a) (nodes b) refl ∙ (λ i. clean a i && clean b i)
clean (Max a b) = of_parts (Max a b) (nodes a) (nodes b) refl ∙ (λ i. clean a i && clean b i)
clean (If t x y a b) =
    ap not (any_more (If t x y a b) (nodes x ++ nodes y ++ nodes a ++ nodes b))
    ∙ ap (λ o. not (not (is_free x && is_free y) || o)) (any_of_two (nodes x ++ nodes y ++ nodes a) (nodes b)
    ∙ ap (λ o. o || any_offends (nodes b)) (any_of_two (nodes x ++ nodes y) (nodes a) ∙ ap (λ o. o || any_offends (nodes a)) (any_of_two (nodes x) (nodes y))))
    ∙ of_if (is_free x) (is_free y) _ _ _ _ (λ h. clean x ∙ free_passes x h) (λ h. clean y ∙ free_passes y h)
    ∙ (λ i. is_free x && is_free y && clean a i && clean b i)

found : {A : Type 0} (p : A → Bool) (xs : List A) → nat_lt (position_or_len p xs) (length xs) ≡ list_any p xs
found p [] = refl
found p (x ∷ xs) = step (p x) (position_or_len p xs) (length xs) (list_any p xs) (found p xs)
  where
    step : (b : Bool) (k n : ℕ) (r : Bool) → nat_lt k n ≡ r → nat_lt (cond (not b) (1 + k) 0) (suc n) ≡ (b || r)
    step true k n r e = grind arith
    step false k n r e = let s : nat_lt (1 + k) (suc n) ≡ nat_lt k n = grind arith in s ∙ e

none_found : (b : Bool) (n : ℕ) → b ≡ false → option_map (λ k. k + 1) (cond b (Some n) None) ≡ None
none_found true n h = cc
none_found false n h = refl

none_there : (b : Bool) (n : ℕ) → option_map (λ k. k + 1) (cond b (Some n) None) ≡ None → not b ≡ true
none_there true n h = cc
none_there false n h = refl

any_is : (f : Formula) → nat_lt (position_or_len offends (nodes f)) (length (nodes f)) ≡ any_offends (nodes f)
unfolding any_offends
any_is f = found offends (nodes f)

pub passes_where : (f : Formula) → (passes f ≡ true) ↔ (first_offending f ≡ None)
passes_where f = (
  (λ h. none_found _ _ (any_is f ∙ not_true (any_offends (nodes f)) (clean f ∙ h))),
  (λ h. sym (clean f) ∙ sym (ap not (any_is f)) ∙ none_there _ _ h),
)
