-- What holds of each number that a table may have, by cases.
use Rattle.std.proofs.Common.{◌≡◌, ℕ, zero, suc, true, not, ◌+◌, ◌<◌, ◌≤◌, [], ◌∷◌, ◌++◌, length, map, Some, refl, arith}
use lib.Utf8
use Rattle.std.specs.Prelude.{IsUtf8}
use Rattle.std.specs.Fmt.{digits}
use Rattle.std.specs.List.{range_with_len}
use Rattle.std.proofs.lemmas.Bool.Decides.{nat_tests}
use Rattle.std.proofs.lemmas.Fmt.{decimal_digit}
use Rattle.star_model.specs.Names.{place_of}
use Rattle.star_model.specs.Vectors.{same_numbers}
use Rattle.star_model.specs.WellFormed.{is_name, differ}
use Rattle.workload_gen.specs.Names.{table_name, index_name, file_name}

pub each_number : (P : ℕ → Type 0) → P 0 → P 1 → P 2 → P 3 → P 4 → P 5 → P 6 → P 7 → P 8 → (n : ℕ) → n ≤ 8 → P n
each_number P a b c d e f g h i zero few = a
each_number P a b c d e f g h i (suc zero) few = b
each_number P a b c d e f g h i (suc (suc zero)) few = c
each_number P a b c d e f g h i (suc (suc (suc zero))) few = d
each_number P a b c d e f g h i (suc (suc (suc (suc zero)))) few = e
each_number P a b c d e f g h i (suc (suc (suc (suc (suc zero))))) few = f
each_number P a b c d e f g h i (suc (suc (suc (suc (suc (suc zero)))))) few = g
each_number P a b c d e f g h i (suc (suc (suc (suc (suc (suc (suc zero))))))) few = h
each_number P a b c d e f g h i (suc (suc (suc (suc (suc (suc (suc (suc zero)))))))) few = i
each_number P a b c d e f g h i (suc (suc (suc (suc (suc (suc (suc (suc (suc n))))))))) few = absurd (omega arith)

-- behind the names of the tables before, a table's own stands at its place
pub own_place : (k : ℕ) → k ≤ 8 → place_of (table_name (k + 1)) (map table_name (range_with_len 1 k) ++ table_name (k + 1) ∷ []) ≡ Some k
unfolding digits
own_place k few =
    each_number (λ k. place_of (table_name (k + 1)) (map table_name (range_with_len 1 k) ++ table_name (k + 1) ∷ []) ≡ Some k)
    refl refl refl refl refl refl refl refl refl k few

pub table_is_name : (n : ℕ) → n ≤ 8 → is_name (table_name n) ≡ true
unfolding digits
table_is_name n few = each_number (λ n. is_name (table_name n) ≡ true) refl refl refl refl refl refl refl refl refl n few

pub index_is_name : (n : ℕ) → n ≤ 8 → is_name (index_name n) ≡ true
unfolding digits
index_is_name n few = each_number (λ n. is_name (index_name n) ≡ true) refl refl refl refl refl refl refl refl refl n few

pub tables_differ : (n : ℕ) → n ≤ 8 → differ same_numbers (map table_name (range_with_len 1 n)) ≡ true
unfolding digits
tables_differ n few = each_number (λ n. differ same_numbers (map table_name (range_with_len 1 n)) ≡ true) refl refl refl refl refl refl refl refl refl n few

pub file_is_text : (n : ℕ) → n ≤ 8 → IsUtf8 (file_name n)
unfolding digits lib.Utf8.encode
file_is_text n few =
    each_number (λ n. IsUtf8 (file_name n)) (file_name 0, (refl, refl)) (file_name 1, (refl, refl)) (file_name 2, (refl, refl)) (file_name 3, (refl, refl))
    (file_name 4, (refl, refl)) (file_name 5, (refl, refl)) (file_name 6, (refl, refl)) (file_name 7, (refl, refl)) (file_name 8, (refl, refl)) n few

pub length-file : (n : ℕ) → n ≤ 8 → length (file_name n) ≡ 6
unfolding digits
length-file n few = each_number (λ n. length (file_name n) ≡ 6) refl refl refl refl refl refl refl refl refl n few

-- two tables have two names for their indexes
pub other_index : (m n : ℕ) → m < n → n ≤ 8 → not (same_numbers (index_name m) (index_name n)) ≡ true
other_index m n below few = rw (decimal_digit m (omega arith), decimal_digit n (omega arith)) (apart m n below) where
  apart : (m n : ℕ) → m < n → not (same_numbers (120 ∷ (48 + m) ∷ []) (120 ∷ (48 + n) ∷ [])) ≡ true
  apart m n below = grind (arith, nat_tests)
