-- Tests over what stands in the parts of a body, an alternative and a STAR.
use Prim.Native.Nat.{zero, suc}
use Rattle.std.proofs.Common.{◌≡◌, ℕ, inl, inr, Bool, true, false, ◌||◌, List, [], ◌∷◌, ◌++◌, map, refl, ap, sym, ◌∙◌}
use Rattle.std.specs.Prelude.{nat_eq, ◌&&◌, Some, slice_get}
use Rattle.std.specs.List.{list_any, list_all, flat_map}
use Rattle.std.proofs.lemmas.Bool.{and_parts, or_cases, or_parts}
use Rattle.std.proofs.lemmas.Option.{same_Some}
use Rattle.std.proofs.lemmas.List.Folds.{list_any-append, list_all-append}
use Rattle.std.proofs.lemmas.List.Sums.{fold-append}
use Rattle.star_model.specs.declared.rules.ValueExpr.{ValueExpr}
use Rattle.star_model.specs.declared.rules.Alternative.{Alternative}
use Rattle.star_model.specs.declared.rules.PlanExpr.{PlanExpr}
use Rattle.std.specs.Option.{option_map_or}
use Rattle.star_model.specs.Accepted.{references_in, variables_in, values_in, values_of_condition, values_of_range, values_of_alternative}
use Rattle.star_check.specs.Strange.{is_strange}

pub ruleset walks = (list_any-append, list_all-append, fold-append)

pub any_flat_map : {X Y : Type 0} (p : Y → Bool) (f : X → List Y) (xs : List X) → list_any p (flat_map f xs) ≡ list_any (λ x. list_any p (f x)) xs
any_flat_map p f [] = refl
any_flat_map p f (x ∷ xs) = list_any-append p (f x) (flat_map f xs) ∙ ap (λ b. list_any p (f x) || b) (any_flat_map p f xs)

pub all_flat_map : {X Y : Type 0} (p : Y → Bool) (f : X → List Y) (xs : List X) → list_all p (flat_map f xs) ≡ list_all (λ x. list_all p (f x)) xs
all_flat_map p f [] = refl
all_flat_map p f (x ∷ xs) = list_all-append p (f x) (flat_map f xs) ∙ ap (λ b. list_all p (f x) && b) (all_flat_map p f xs)

pub any_in_bodies : {Y : Type 0} (p : Y → Bool) (f : PlanExpr → List Y) (alternatives : List Alternative)
    → list_any p (flat_map f (map (λ a. a.body) alternatives)) ≡ list_any (λ a. list_any p (f a.body)) alternatives
any_in_bodies p f [] = refl
any_in_bodies p f (a ∷ more) = list_any-append p (f a.body) (flat_map f (map (λ a. a.body) more)) ∙ ap (λ b. list_any p (f a.body) || b) (any_in_bodies p f more)

pub any_variable : (alternatives : List Alternative)
    → list_any (nat_eq 255) (flat_map variables_in (flat_map values_of_alternative alternatives)) ≡ list_any (λ a. list_any is_strange (values_of_alternative a)) alternatives
any_variable alternatives =
    any_flat_map (nat_eq 255) variables_in (flat_map values_of_alternative alternatives) ∙ any_flat_map is_strange values_of_alternative alternatives

pub any_of_alternative : (p : ValueExpr → Bool) (a : Alternative)
    → list_any p (values_of_alternative a) ≡ ((list_any (λ f. list_any p (values_of_range f.range)) a.ranges || list_any p (option_map_or values_of_condition a.condition [])) || list_any p (values_in a.body))
any_of_alternative p a =
    let of_ranges = flat_map (λ f. values_of_range f.range) a.ranges in
    let of_condition = option_map_or values_of_condition a.condition [] in
    list_any-append p (of_ranges ++ of_condition) (values_in a.body)
    ∙ ap (λ b. b || list_any p (values_in a.body)) (list_any-append p of_ranges of_condition ∙ ap (λ b. b || list_any p of_condition) (any_flat_map p (λ f. values_of_range f.range) a.ranges))

pub any_map : {X Y : Type 0} (p : Y → Bool) (f : X → Y) (xs : List X) → list_any p (map f xs) ≡ list_any (λ x. p (f x)) xs
any_map p f [] = refl
any_map p f (x ∷ xs) = ap (λ b. p (f x) || b) (any_map p f xs)

pub every_at : {A : Type 0} (p : A → Bool) (xs : List A) → ((i : ℕ) (x : A) → slice_get xs i ≡ Some x → p x ≡ true) → list_all p xs ≡ true
every_at p [] each = refl
every_at p (x ∷ xs) each = (λ k. each 0 x refl k && every_at p xs (λ i y at. each (suc i) y at) k)

-- the references of a STAR are those of its bodies
pub all_in_bodies : (p : List ℕ × List ValueExpr → Bool) (alternatives : List Alternative) (i : ℕ) (a : Alternative) → list_all p (flat_map references_in (map (λ b. b.body) alternatives)) ≡ true
    → slice_get alternatives i ≡ Some a → list_all p (references_in a.body) ≡ true
all_in_bodies p [] i a all at = cc
all_in_bodies p (b ∷ more) zero a all at =
    ap (λ c. list_all p (references_in c.body)) (sym (same_Some b a at))
    ∙ (and_parts (list_all p (references_in b.body)) (list_all p (flat_map references_in (map (λ b. b.body) more))) (sym (list_all-append p (references_in b.body) _) ∙ all)).0
all_in_bodies p (b ∷ more) (suc i) a all at =
    all_in_bodies
    p
    more
    i
    a
    (and_parts (list_all p (references_in b.body)) (list_all p (flat_map references_in (map (λ b. b.body) more))) (sym (list_all-append p (references_in b.body) _) ∙ all)).1
    at

-- an item that passes one test passes one that all pass
pub any_and_all : {A : Type 0} (p q : A → Bool) (xs : List A) → list_any p xs ≡ true → list_all q xs ≡ true → (x : A) × (p x ≡ true) × (q x ≡ true)
any_and_all p q [] some all = cc
any_and_all p q (x ∷ xs) some all =
    let parts = and_parts (q x) (list_all q xs) all in
    elim (or_cases (p x) (list_any p xs) some) [ inl here ↦ (x, here, parts.0) | inr later ↦ any_and_all p q xs later parts.1 ]

-- where no item passes either of two tests, all pass one that follows
pub all_from_none : {A : Type 0} (p q r : A → Bool) (xs : List A) → list_any p xs ≡ false → list_any q xs ≡ false → ((x : A) → p x ≡ false → q x ≡ false → r x ≡ true) → list_all r xs ≡ true
all_from_none p q r [] no_p no_q so = refl
all_from_none p q r (x ∷ xs) no_p no_q so =
    let ps = or_parts (p x) (list_any p xs) no_p in
    let qs = or_parts (q x) (list_any q xs) no_q in
    (λ k. so x ps.0 qs.0 k && all_from_none p q r xs ps.1 qs.1 so k)
