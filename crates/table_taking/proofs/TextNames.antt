-- The names of tables and of their files are texts.
use Rattle.std.proofs.Common.{◌≡◌, ◌<◌, ℕ, zero, suc, Bool, true, false, List, [], ◌∷◌, length, get_or, refl, sym, subst, arith}
use Rattle.std.specs.Prelude.{◌||◌, nat_le, IsUtf8}
use Rattle.std.specs.Str.{IsAscii}
use Rattle.std.specs.List.{list_all}
use Rattle.std.proofs.lemmas.Bool.{and_parts, leb-true, eqb-true}
use Rattle.std.proofs.lemmas.Str.{IsUtf8-from_ascii}
use Rattle.std.proofs.lemmas.Str.Ascii.{IsAscii-nil, IsAscii-cons}
use Rattle.star_model.specs.WellFormed.{is_letter, is_digit, is_word, is_name, Each, more}

-- an item of a list of which each has a property
pub each_at : {A : Type 0} (P : A → Type 0) (xs : List A) (n : ℕ) (x : A) → n < length xs
    → x ≡ get_or xs n x → Each P xs → P x
each_at P [] n x within is each = absurd (omega arith)
each_at P (y ∷ xs) zero x within is (more _ _ here rest) = subst P (sym is) here
each_at P (y ∷ xs) (suc n) x within is (more _ _ here rest) = each_at P xs n x (omega arith) is rest

letter : (b : ℕ) → is_letter b ≡ true → b < 128
letter b h = grind (arith, leb-true, eqb-true)

digit : (b : ℕ) → is_digit b ≡ true → b < 128
digit b h = grind (arith, leb-true)

either : (b : ℕ) → (is_letter b || is_digit b) ≡ true → b < 128
either b h = at (is_letter b) refl h
  where
    at : (x : Bool) → is_letter b ≡ x → (x || is_digit b) ≡ true → b < 128
    at true is h = letter b is
    at false is h = digit b h

letters : (bytes : List ℕ) → list_all (λ c. is_letter c || is_digit c) bytes ≡ true → IsAscii bytes
letters [] h = IsAscii-nil
letters (b ∷ bytes) h =
    let p = and_parts (is_letter b || is_digit b) (list_all (λ c. is_letter c || is_digit c) bytes)
    h in
    IsAscii-cons b bytes (either b p.0) (letters bytes p.1)

pub name_is_text : (bytes : List ℕ) → is_name bytes ≡ true → IsUtf8 bytes
name_is_text bytes h = IsUtf8-from_ascii bytes (word bytes
    (and_parts (is_word bytes) (nat_le (length bytes) 64) h).0)
  where
    word : (bytes : List ℕ) → is_word bytes ≡ true → IsAscii bytes
    word [] h = absurd cc
    word (b ∷ bytes) h =
        let p = and_parts (is_letter b) (list_all (λ c. is_letter c || is_digit c) bytes) h in
        IsAscii-cons b bytes (letter b p.0) (letters bytes p.1)
