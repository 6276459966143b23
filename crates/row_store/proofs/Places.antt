-- Steps of the search for a name that stands once.
use Rattle.std.proofs.Common.{◌≡◌, ◌∙◌, sym, ap, ℕ, ◌+◌, ◌<◌, List, [], ◌∷◌, ◌++◌, length, take, drop, get_or, true, false, Bool, arith, cond, not, Option, Some, None}
use Rattle.std.specs.Option.{option_map_or}
use Rattle.std.specs.List.{count_by, position}
use Rattle.std.proofs.lemmas.List.{take_more, length-append, length-take-le, take-append-drop}
use Rattle.std.proofs.lemmas.List.Sums.{count_by_more_yes, count_by_more_no, sum_by-append, prefix_len-le-length}
use Rattle.std.proofs.lemmas.List.Folds.{position_or_len_push}
use Rattle.std.proofs.lemmas.Bool.Decides.{nat_tests}
use Rattle.star_model.specs.Vectors.{same_numbers}
use Rattle.star_model.specs.Data.{Record, place_in}

module _ {X : Type 0} (p : X → Bool) (xs : List X) (x : X) where
  position_no : p x ≡ false → position p (xs ++ x ∷ []) ≡ position p xs
  position_no is = grind (arith, nat_tests, position_or_len_push p xs x, prefix_len-le-length (λ y. not (p y)) xs, length-append xs (x ∷ []))

  position_yes : p x ≡ true → position p xs ≡ None → position p (xs ++ x ∷ []) ≡ Some (length xs)
  position_yes is none = grind (arith, nat_tests, position_or_len_push p xs x, prefix_len-le-length (λ y. not (p y)) xs, length-append xs (x ∷ []))

-- what is known of the names before a place
pub record IsSoFar {X : Type 0} (p : X → Bool) (before : List X) (place : Option ℕ) : Type 0 where
  pub count : count_by p before ≡ option_map_or (λ place. 1) place 0
  pub at : place ≡ position p before

module _ {X : Type 0} (p : X → Bool) (xs : List X) (i : ℕ) (d : X) (within : i < length xs) where
  pub passed : (place : Option ℕ) → IsSoFar p (take i xs) place → p (get_or xs i d) ≡ false → IsSoFar p (take (i + 1) xs) place
  passed place h is = record {
    count = count_by_more_no p xs i d within is ∙ h.count;
    at = h.at ∙ sym (position_no p (take i xs) (get_or xs i d) is) ∙ ap (position p) (sym (take_more xs i d within));
  }

  pub found : IsSoFar p (take i xs) None → p (get_or xs i d) ≡ true → IsSoFar p (take (i + 1) xs) (Some i)
  found h is = record {
    count = count_by_more_yes p xs i d within is ∙ ap (λ n. n + 1) h.count;
    at = ap (λ n. Some n) (sym (length-take-le i xs (omega arith))) ∙ sym (position_yes p (take i xs) (get_or xs i d) is (sym h.at)) ∙ ap (position p) (sym (take_more xs i d within));
  }

  counted : count_by p xs ≡ count_by p (take (i + 1) xs) + count_by p (drop (i + 1) xs)
  counted = ap (count_by p) (sym (take-append-drop (i + 1) xs)) ∙ sum_by-append (λ x. cond (p x) 1 0) (take (i + 1) xs) (drop (i + 1) xs)

  pub again : (place : ℕ) → IsSoFar p (take i xs) (Some place) → p (get_or xs i d) ≡ true → 1 < count_by p xs
  again place h is = omega (arith, counted, count_by_more_yes p xs i d within is, h.count)

pub stands_twice : (header : Record) (name : List ℕ) → 1 < count_by (same_numbers name) header → None ≡ place_in header name
stands_twice header name more = grind (arith, nat_tests)
