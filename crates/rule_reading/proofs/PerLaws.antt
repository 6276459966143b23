-- Tokens before and behind the first `per`.
use Rattle.std.proofs.Common.{◌≡◌, ℕ, suc, ◌+◌, ◌-◌, ◌<◌, ◌≤◌, Bool, true, false, cond, if◌then◌else◌, List, [], ◌∷◌, Option, Some, None, option_map, take, drop, length, add-one, refl, sym, ap, ◌∙◌, arith}
use Rattle.std.specs.List.{position_or_len}
use Rattle.std.proofs.lemmas.List.{take_rest, take-map, drop-map, drop-drop, length-map}
use Rattle.std.proofs.lemmas.List.Recursion.{is_position_or_len}
use Rattle.sb_text.specs.declared.token.Token.{Token}
use Rattle.spelling.specs.Lexemes.{Lexeme, lexeme_of, lexemes_of}
use Rattle.rule_grammar.specs.SelectHeads.{is_per, parted_at_per}

-- how many lexemes stand before the first `per`
abbrev place : List Lexeme → ℕ
place [] = 0
place (x ∷ xs) = cond (is_per x) 0 (suc (place xs))

place_is : (xs : List Lexeme) → place xs ≡ position_or_len is_per xs
place_is xs = is_position_or_len place is_per refl (λ x ys. ap (λ (n : ℕ). cond (is_per x) 0 n) (omega arith)) xs

below : (xs : List Lexeme) → place xs ≤ length xs
below [] = omega arith
below (x ∷ xs) = at (is_per x) (below xs) where
  at : (b : Bool) → place xs ≤ length xs → cond b 0 (suc (place xs)) ≤ suc (length xs)
  at true later = omega arith
  at false later = omega (arith, later)

abbrev with_first : Lexeme → Option (List Lexeme × List Lexeme) → Option (List Lexeme × List Lexeme)
with_first x found = option_map (λ parts. (x ∷ parts.0, parts.1)) found

none_at : (xs : List Lexeme) → length xs ≤ place xs → parted_at_per xs ≡ None
none_at [] le = refl
none_at (x ∷ xs) le = at (is_per x) le (λ h. none_at xs h) where
  at : (b : Bool) → suc (length xs) ≤ cond b 0 (suc (place xs)) → (length xs ≤ place xs → parted_at_per xs ≡ None) → (if b then Some ([], xs) else with_first x (parted_at_per xs)) ≡ None
  at true le more = absurd (omega (arith, le))
  at false le more = rw (more (omega (arith, le))) refl

some_at : (xs : List Lexeme) → place xs < length xs → parted_at_per xs ≡ Some (take (place xs) xs, drop (suc (place xs)) xs)
some_at [] lt = absurd (omega (arith, lt))
some_at (x ∷ xs) lt = at (is_per x) lt (λ h. some_at xs h) where
  at : (b : Bool) → cond b 0 (suc (place xs)) < suc (length xs) → (place xs < length xs → parted_at_per xs ≡ Some (take (place xs) xs, drop (suc (place xs)) xs))
      → (if b then Some ([], xs) else with_first x (parted_at_per xs)) ≡ Some (take (cond b 0 (suc (place xs))) (x ∷ xs), drop (suc (cond b 0 (suc (place xs)))) (x ∷ xs))
  at true lt more = refl
  at false lt more = rw (more (omega (arith, lt))) refl

module _ (source : List ℕ) (tokens : List Token) (n : ℕ) (is : n ≡ position_or_len is_per (lexemes_of source tokens)) where
  here : n ≡ place (lexemes_of source tokens)
  here = is ∙ sym (place_is (lexemes_of source tokens))

  many : length (lexemes_of source tokens) ≡ length tokens
  many = length-map tokens (lexeme_of source)

  pub within : n ≤ length tokens
  within = omega (arith, here, many, below (lexemes_of source tokens))

  pub nothing : (back : List Token) → length back + n ≡ length tokens → length back < 1 → None ≡ parted_at_per (lexemes_of source tokens)
  nothing back len few = sym (none_at (lexemes_of source tokens) (omega (arith, here, many, len, few)))

  pub parts : (front back : List Token) → front ≡ take n tokens → back ≡ drop n tokens → length back + n ≡ length tokens → 1 ≤ length back
      → Some (lexemes_of source front, lexemes_of source (take (length back - 1) (drop 1 back))) ≡ parted_at_per (lexemes_of source tokens)
  parts front back front_is back_is len some =
      let found = some_at (lexemes_of source tokens) (omega (arith, here, many, len, some)) in
      let first : lexemes_of source front ≡ take n (lexemes_of source tokens) = ap (lexemes_of source) front_is ∙ sym (take-map (lexeme_of source) n tokens) in
      let second : lexemes_of source (take (length back - 1) (drop 1 back)) ≡ drop (suc n) (lexemes_of source tokens) =
      ap (lexemes_of source) (take_rest back 1 ∙ ap (drop 1) back_is ∙ drop-drop 1 n tokens ∙ ap (λ k. drop k tokens) (add-one n)) ∙ sym (drop-map (lexeme_of source) (suc n) tokens) in
      (λ i. Some (first i, second i)) ∙ ap (λ k. Some (take k (lexemes_of source tokens), drop (suc k) (lexemes_of source tokens))) here ∙ sym found
