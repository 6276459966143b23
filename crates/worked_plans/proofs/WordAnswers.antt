-- The choices of rows that make the words of two tables the same.
use Rattle.std.proofs.Common.{◌≡◌, ℕ, ◌<◌, zero, suc, true, false, ◌&&◌, nat_lt, List, [], ◌∷◌, map, refl, ap, sym, subst, ◌∙◌, ◌⊎◌, inl, inr, arith}
use Rattle.std.specs.Prelude.{Contains, IsSortedBy, slice_index_or}
use Rattle.std.specs.List.{list_all}
use Rattle.std.proofs.lemmas.Bool.{and_parts, ltb-true}
use Rattle.star_model.specs.Answers.{Assignment, IsAnswer, IsListOf, all_preds, is_earlier, makes_true, same_assignment, values_of_columns}
use Rattle.star_model.specs.Predicates.{all_quants, preds_in}
use Rattle.star_model.specs.Sets.{has, members, places, set_of}
use Rattle.star_model.specs.WellFormed.{differ}
use Rattle.star_model.specs.declared.catalogue.Value.{Value}
use Rattle.star_model.specs.declared.query.Query.{Query}
use Rattle.worked_plans.specs.Queries as queries
use Rattle.worked_plans.specs.Tables.{pair}
use Rattle.worked_plans.specs.WordRows.{word_rows, row_a, row_b, AreAnswer}

abbrev query : Query
query = queries.same_words

abbrev b_choice : Assignment
b_choice = pair 0 2

abbrev a_choice : Assignment
a_choice = pair 1 0

abbrev Answers : Assignment → Type 0
Answers a = IsAnswer query word_rows (all_quants query) (all_preds query word_rows) [] a

abbrev IsWhole : List Assignment → Type 0
IsWhole choices = IsListOf query word_rows (all_quants query) (all_preds query word_rows) [] choices

abbrev values : Assignment → List Value
values a = values_of_columns query word_rows query.select a

-- ---- the answer has two choices

two_quantifiers : members (all_quants query) ≡ 0 ∷ 1 ∷ []
unfolding members has places set_of
two_quantifiers = refl

its_predicate : preds_in query (all_preds query word_rows) ≡ query.preds
unfolding has places set_of
its_predicate = refl

b_answers : Answers b_choice
b_answers = record { quantifiers = sym two_quantifiers; rows = refl; true_ = ap (list_all (makes_true query word_rows b_choice)) its_predicate }

a_answers : Answers a_choice
a_answers = record { quantifiers = sym two_quantifiers; rows = refl; true_ = ap (list_all (makes_true query word_rows a_choice)) its_predicate }

-- a choice of a row for each quantifier
is_pair : (a : Assignment) → map (λ p. p.0) a ≡ 0 ∷ 1 ∷ [] → (x : ℕ) × (y : ℕ) × (a ≡ pair x y)
is_pair [] e = cc
is_pair (p ∷ []) e = cc
is_pair (p ∷ r ∷ []) e =
    let first : p.0 ≡ 0 = cc in
    let second : r.0 ≡ 1 = cc in
    (p.1, r.1, λ i. (first i, p.1) ∷ (second i, r.1) ∷ [])
is_pair (p ∷ r ∷ s ∷ a) e = cc

abbrev IsOneOf : Assignment → Type 0
IsOneOf a = (a ≡ b_choice) ⊎ (a ≡ a_choice)

-- of the six pairs of rows two have the same word
same_word : (x y : ℕ) → x < 2 → y < 3 → list_all (makes_true query word_rows (pair x y)) query.preds ≡ true → IsOneOf (pair x y)
same_word zero zero p q t = cc
same_word zero (suc zero) p q t = cc
same_word zero (suc (suc zero)) p q t = inl refl
same_word zero (suc (suc (suc y))) p q t = absurd (omega (arith, q))
same_word (suc zero) zero p q t = inr refl
same_word (suc zero) (suc zero) p q t = cc
same_word (suc zero) (suc (suc zero)) p q t = cc
same_word (suc zero) (suc (suc (suc y))) p q t = absurd (omega (arith, q))
same_word (suc (suc x)) y p q t = absurd (omega (arith, p))

pair_is : (x y : ℕ) → Answers (pair x y) → IsOneOf (pair x y)
pair_is x y answers =
    let first = and_parts (nat_lt x 2) (nat_lt y 3 && true) answers.rows in
    let second = and_parts (nat_lt y 3) true first.1 in
    same_word x y (ltb-true x 2 first.0) (ltb-true y 3 second.0) (sym (ap (list_all (makes_true query word_rows (pair x y))) its_predicate) ∙ answers.true_)

choice_is : (a : Assignment) → Answers a → IsOneOf a
choice_is a answers =
    let shape = is_pair a (answers.quantifiers ∙ two_quantifiers) in
    subst IsOneOf (sym shape.2) (pair_is shape.0 shape.1 (subst Answers shape.2 answers))

-- a choice of the answer is known by its values
of_b : (a : Assignment) → Answers a → row_b ≡ values a → a ≡ b_choice
of_b a answers is = go (choice_is a answers)
  where
    go : IsOneOf a → a ≡ b_choice
    go (inl same) = same
    go (inr same) = let other : row_b ≡ row_a = is ∙ ap values same in cc

of_a : (a : Assignment) → Answers a → row_a ≡ values a → a ≡ a_choice
of_a a answers is = go (choice_is a answers)
  where
    go : IsOneOf a → a ≡ a_choice
    go (inl same) = let other : row_a ≡ row_b = is ∙ ap values same in cc
    go (inr same) = same

-- ---- the sorted list

both : (a : Assignment) → IsOneOf a → Contains (b_choice ∷ a_choice ∷ []) a
both a (inl same) = (0, omega arith, sym same)
both a (inr same) = (1, omega arith, sym same)

only : (a : Assignment) (k : ℕ) → k < 2 → slice_index_or (b_choice ∷ a_choice ∷ []) k a ≡ a → Answers a
only a zero few is = subst Answers is b_answers
only a (suc zero) few is = subst Answers is a_answers
only a (suc (suc k)) few is = absurd (omega (arith, few))

rises : IsSortedBy (is_earlier query word_rows query.order) (b_choice ∷ a_choice ∷ [])
rises zero d from_ below = refl
rises (suc k) d from_ below = absurd (omega (arith, below))

pub sorted_rows : AreAnswer (row_b ∷ row_a ∷ [])
sorted_rows = record {
  choices = b_choice ∷ a_choice ∷ [];
  answer = record { members = λ a. ((λ at. only a at.0 at.1 at.2), λ answers. both a (choice_is a answers)); once = refl };
  sorted = rises;
  values = refl;
}

-- ---- lists that come close

first_answers : (a : Assignment) (choices : List Assignment) → IsWhole (a ∷ choices) → Answers a
first_answers a choices whole = (whole.members a).0 (0, omega arith, refl)

second_answers : (a b : Assignment) (choices : List Assignment) → IsWhole (a ∷ b ∷ choices) → Answers b
second_answers a b choices whole = (whole.members b).0 (1, omega arith, refl)

exchanged : (choices : List Assignment) → IsWhole choices → IsSortedBy (is_earlier query word_rows query.order) choices → row_a ∷ row_b ∷ [] ≡ map values choices → ⊥
exchanged [] whole sorted is = cc
exchanged (a ∷ []) whole sorted is = cc
exchanged (a ∷ b ∷ []) whole sorted is =
    let first : row_a ≡ values a = cc in
    let second : row_b ≡ values b = cc in
    let a_is = of_a a (first_answers a (b ∷ []) whole) first in
    let b_is = of_b b (second_answers a b [] whole) second in
    let not_earlier : is_earlier query word_rows query.order b a ≡ false = sorted 0 a (omega arith) (omega arith) in
    let earlier : is_earlier query word_rows query.order b a ≡ true = λ i. is_earlier query word_rows query.order (b_is i) (a_is i) in
    cc
exchanged (a ∷ b ∷ c ∷ choices) whole sorted is = cc

twice : (choices : List Assignment) → IsWhole choices → row_b ∷ row_b ∷ row_a ∷ [] ≡ map values choices → ⊥
twice [] whole is = cc
twice (a ∷ []) whole is = cc
twice (a ∷ b ∷ choices) whole is =
    let first : row_b ≡ values a = cc in
    let second : row_b ≡ values b = cc in
    let a_is = of_b a (first_answers a (b ∷ choices) whole) first in
    let b_is = of_b b (second_answers a b choices whole) second in
    let same : differ (same_assignment query word_rows) (a ∷ b ∷ choices) ≡ false = λ i. differ (same_assignment query word_rows) (a_is i ∷ b_is i ∷ choices) in
    let once = whole.once in
    cc

missing : (choices : List Assignment) → IsWhole choices → row_b ∷ [] ≡ map values choices → ⊥
missing [] whole is = cc
missing (a ∷ []) whole is = at ((whole.members a_choice).1 a_answers).0 ((whole.members a_choice).1 a_answers).1 ((whole.members a_choice).1 a_answers).2
  where
    at : (k : ℕ) → k < 1 → slice_index_or (a ∷ []) k a_choice ≡ a_choice → ⊥
    at zero few same = let first : row_b ≡ values a = cc in let other : row_b ≡ row_a = first ∙ ap values same in cc
    at (suc k) few same = omega (arith, few)
missing (a ∷ b ∷ choices) whole is = cc

pub not_exchanged : AreAnswer (row_a ∷ row_b ∷ []) → ⊥
not_exchanged listed = exchanged listed.choices listed.answer listed.sorted listed.values

pub none_twice : AreAnswer (row_b ∷ row_b ∷ row_a ∷ []) → ⊥
none_twice listed = twice listed.choices listed.answer listed.values

pub none_missing : AreAnswer (row_b ∷ []) → ⊥
none_missing listed = missing listed.choices listed.answer listed.values
