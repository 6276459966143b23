-- A name that is equal to an earlier one is one that recurs.
use Rattle.std.proofs.Common.{◌≡◌, ℕ, Bool, true, false, ◌||◌, List, [], ◌∷◌, map, refl, ap, ◌∙◌}
use Rattle.std.specs.Prelude.{nat_lt, ◌&&◌}
use Rattle.std.specs.List.{list_any}
use Rattle.std.proofs.lemmas.Cmp.{nat_list_eq_equiv}
use Rattle.star_model.specs.Vectors.{same_numbers}
use Rattle.star_model.specs.Accepted.{repeats, is_star_twice}
use Rattle.star_model.specs.declared.rules.Param.{Param}
use Rattle.star_model.specs.declared.rules.ForAll.{ForAll}
use Rattle.star_model.specs.declared.rules.StarDef.{StarDef}
use Rattle.star_model.specs.declared.rules.RuleFile.{RuleFile}
use Rattle.star_check.specs.Repeated.{recurs, ranges_repeat}
use Rattle.star_check.proofs.Walks.{any_map}

any_either : {X : Type 0} (p q : X → Bool) (xs : List X) → list_any (λ x. p x || q x) xs ≡ (list_any p xs || list_any q xs)
any_either p q [] = refl
any_either p q (x ∷ xs) = ap (λ b. (p x || q x) || b) (any_either p q xs) ∙ shuffle (p x) (q x) (list_any p xs) (list_any q xs)
  where
    shuffle : (a b c d : Bool) → ((a || b) || (c || d)) ≡ ((a || c) || (b || d))
    shuffle true b c d = refl
    shuffle false true true d = refl
    shuffle false true false d = refl
    shuffle false false c d = refl

any_agree : {X : Type 0} (p q : X → Bool) → ((x : X) → p x ≡ q x) → (xs : List X) → list_any p xs ≡ list_any q xs
any_agree p q same xs = λ i. list_any (λ x. same x i) xs

any_none : {X : Type 0} (xs : List X) → list_any (λ x. false) xs ≡ false
any_none [] = refl
any_none (x ∷ xs) = any_none xs

repeats_where : {A : Type 0} (rules : RuleFile) (name : A → List ℕ) (seen : List (List ℕ)) (xs : List A)
    → repeats rules seen (map name xs) ≡ (list_any (λ x. list_any (same_numbers (name x)) seen) xs || recurs name xs)
repeats_where rules name seen [] = refl
repeats_where rules name seen (x ∷ xs) =
    ap (λ b. list_any (same_numbers (name x)) seen || b)
    (repeats_where rules name (name x ∷ seen) xs
    ∙ ap (λ b. b || recurs name xs)
    (any_either (λ y. same_numbers (name y) (name x)) (λ y. list_any (same_numbers (name y)) seen) xs
    ∙ ap
    (λ b. b || list_any (λ y. list_any (same_numbers (name y)) seen) xs)
    (any_agree (λ y. same_numbers (name y) (name x)) (λ y. same_numbers (name x) (name y)) (λ y. nat_list_eq_equiv.symm (name y) (name x)) xs)))
    ∙ shuffle
    (list_any (same_numbers (name x)) seen)
    (list_any (λ y. same_numbers (name x) (name y)) xs)
    (list_any (λ y. list_any (same_numbers (name y)) seen) xs)
    (recurs name xs)
  where
    shuffle : (a b c d : Bool) → (a || ((b || c) || d)) ≡ ((a || c) || (b || d))
    shuffle true b c d = refl
    shuffle false true true d = refl
    shuffle false true false d = refl
    shuffle false false c d = refl

repeating : (rules : RuleFile) (params : List Param) (ranges : List ForAll) → repeats rules (map (λ p. p.name) params) (map (λ f. f.name) ranges) ≡ ranges_repeat params ranges
repeating rules params ranges =
    repeats_where rules (λ f. f.name) (map (λ p. p.name) params) ranges
    ∙ ap
    (λ b. b || recurs (λ f. f.name) ranges)
    (any_agree
    (λ f. list_any (same_numbers f.name) (map (λ p. p.name) params))
    (λ f. list_any (λ p. same_numbers f.name p.name) params)
    (λ f. any_map (same_numbers f.name) (λ p. p.name) params)
    ranges)

pub star_twice : (rules : RuleFile) (s : StarDef)
    → is_star_twice rules s
    ≡ (list_any (λ t. nat_lt t.statement s.statement && same_numbers t.name s.name) rules.stars
    || (recurs (λ p. p.name) s.params || list_any (λ a. ranges_repeat s.params a.ranges) s.alternatives))
star_twice rules s =
    let before : Bool = list_any (λ t. nat_lt t.statement s.statement && same_numbers t.name s.name) rules.stars in
    let alone : repeats rules [] (map (λ p. p.name) s.params) ≡ recurs (λ p. p.name) s.params =
    repeats_where rules (λ p. p.name) [] s.params ∙ ap (λ b. b || recurs (λ p. p.name) s.params) (any_none s.params) in
    (λ i. (before || alone i) || list_any (λ a. repeating rules s.params a.ranges i) s.alternatives)
    ∙ turn before (recurs (λ p. p.name) s.params) (list_any (λ a. ranges_repeat s.params a.ranges) s.alternatives)
  where
    turn : (a b c : Bool) → ((a || b) || c) ≡ (a || (b || c))
    turn true b c = refl
    turn false b c = refl
