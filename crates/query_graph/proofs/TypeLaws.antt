-- The first predicate that compares two types.
use Rattle.std.proofs.Common.{◌≡◌, ℕ, ◌+◌, Bool, cond, true, false, List, [], ◌∷◌, ◌++◌, Option, Some, None, MatchOption, refl, sym, subst, arith}
use Prim.Native.Nat.{suc}
use Rattle.std.specs.List.{position_from}
use Rattle.std.specs.Option.{option_map}
use Rattle.star_model.specs.declared.catalogue.ColType.{ColType}
use Rattle.star_model.specs.declared.catalogue.ColType.TheVariants as type
use Rattle.star_model.specs.declared.query.Query.{Query}
use Rattle.star_model.specs.declared.query.Pred.{Pred}
use Rattle.star_model.specs.WellFormed.{type_of, type_of_operand}
use Rattle.spelling.specs.Firsts.{FirstFrom, NoneFrom, FirstAt, NoneHas}
use Rattle.query_graph.specs.Faults.{HasTwoTypes}
use Rattle.query_graph.specs.TypeTests.{are_two, has_two_types}

-- ---- the first item that passes a test

module _ {A : Type 0} (Has : A → Type 0) (test : A → Bool) (passes : (x : A) → test x ≡ true → Has x) (fails : (x : A) → test x ≡ false → Has x → ⊥) where
  none_passes : (n : ℕ) (before xs : List A) → position_from test n xs ≡ None → NoneFrom (λ _ x. Has x) before xs
  none_passes n before [] none = tt
  none_passes n before (x ∷ xs) none = by (test x) refl none (none_passes (n + 1) (before ++ x ∷ []) xs)
    where
      by : (b : Bool) → test x ≡ b → cond b (Some n) (position_from test (n + 1) xs) ≡ None → (position_from test (n + 1) xs ≡ None → NoneFrom (λ _ y. Has y) (before ++ x ∷ []) xs)
          → (Has x → ⊥) × NoneFrom (λ _ y. Has y) (before ++ x ∷ []) xs
      by true e found rest = absurd cc
      by false e found rest = (fails x e, rest found)

  first_passes : (n place : ℕ) (before xs : List A) → position_from test n xs ≡ Some place → (m : ℕ) × (place ≡ n + m) × FirstFrom (λ _ x. Has x) before xs (suc m)
  first_passes n place before [] found = absurd cc
  first_passes n place before (x ∷ xs) found = by (test x) refl found (first_passes (n + 1) place (before ++ x ∷ []) xs)
    where
      by : (b : Bool) → test x ≡ b → cond b (Some n) (position_from test (n + 1) xs) ≡ Some place
          → (position_from test (n + 1) xs ≡ Some place → (m : ℕ) × (place ≡ n + 1 + m) × FirstFrom (λ _ y. Has y) (before ++ x ∷ []) xs (suc m))
          → (m : ℕ) × (place ≡ n + m) × FirstFrom (λ _ y. Has y) before (x ∷ xs) (suc m)
      by true e found rest = let same : n ≡ place = cc in (0, omega arith, passes x e)
      by false e found rest = let later = rest found in (suc later.0, omega (arith, later.1), (fails x e, later.2))

  -- what a search answers, counted from 1
  pub first_of : (xs : List A) (found : Option ℕ) → found ≡ position_from test 0 xs
      → MatchOption (option_map (λ n. n + 1) found) (NoneHas (λ _ x. Has x) xs) (FirstAt (λ _ x. Has x) xs)
  first_of xs None is = none_passes 0 [] xs (sym is)
  first_of xs (Some place) is =
      let first = first_passes 0 place [] xs (sym is) in
      let same : suc first.0 ≡ place + 1 = omega (arith, first.1) in
      subst (λ n. FirstFrom (λ _ x. Has x) [] xs n) same first.2

-- ---- types

two : (a b : Option ColType) → are_two a b ≡ true → (left : ColType) × (right : ColType) × (a ≡ Some left) × (b ≡ Some right) × (left ≡ right → ⊥)
two None b test = absurd cc
two (Some type.Int) None test = absurd cc
two (Some type.Text) None test = absurd cc
two (Some type.Int) (Some type.Int) test = absurd cc
two (Some type.Int) (Some type.Text) test = (type.Int, type.Text, refl, refl, λ same. cc)
two (Some type.Text) (Some type.Int) test = (type.Text, type.Int, refl, refl, λ same. cc)
two (Some type.Text) (Some type.Text) test = absurd cc

one : (a b : Option ColType) (left right : ColType) → are_two a b ≡ false → a ≡ Some left → b ≡ Some right → left ≡ right
one a b type.Int type.Int test is are = refl
one a b type.Int type.Text test is are = let is_two : are_two a b ≡ true = λ i. are_two (is i) (are i) in absurd cc
one a b type.Text type.Int test is are = let is_two : are_two a b ≡ true = λ i. are_two (is i) (are i) in absurd cc
one a b type.Text type.Text test is are = refl

two_types : (q : Query) (p : Pred) → has_two_types q p ≡ true → HasTwoTypes q p
two_types q p test =
    let found = two (type_of q p.left) (type_of_operand q p.right) test in
    record { left = found.0; right = found.1; left_is = found.2; right_is = found.3; two = found.4 }

one_type : (q : Query) (p : Pred) → has_two_types q p ≡ false → HasTwoTypes q p → ⊥
one_type q p test has = has.two (one (type_of q p.left) (type_of_operand q p.right) has.left has.right test has.left_is has.right_is)

pub first_clash_is : (q : Query) (predicates : List Pred) (found : Option ℕ) → found ≡ position_from (has_two_types q) 0 predicates
    → MatchOption (option_map (λ n. n + 1) found) (NoneHas (λ _ p. HasTwoTypes q p) predicates) (FirstAt (λ _ p. HasTwoTypes q p) predicates)
first_clash_is q predicates found is = first_of (HasTwoTypes q) (has_two_types q) (two_types q) (one_type q) predicates found is
