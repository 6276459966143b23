-- Texts between quotes, byte by byte.
use Rattle.std.proofs.Common.{◌≡◌, ℕ, ◌+◌, ◌<◌, ◌≤◌, Bool, true, false, if◌then◌else◌, List, [], ◌∷◌, ◌++◌, drop, get_or, length, refl, sym, ap, ◌∙◌, append_assoc, append-nil, add-one, drop-cons}
use Rattle.std.proofs.lemmas.List.{drop_all}
use Rattle.sb_text.specs.Bytes.{is_quote}
use Rattle.sb_text.specs.Forms.{doubled}

first_doubled : (b : ℕ) (bytes : List ℕ) → doubled (b ∷ bytes) ≡ doubled (b ∷ []) ++ doubled bytes
first_doubled b bytes = by_case (is_quote b) (doubled bytes)
  where
    by_case : (q : Bool) (rest : List ℕ) → (if q then b ∷ b ∷ rest else b ∷ rest) ≡ (if q then b ∷ b ∷ [] else b ∷ []) ++ rest
    by_case true rest = refl
    by_case false rest = refl

pub byte_doubled : (out new all bytes : List ℕ) (i : ℕ) → i < length bytes → out ++ doubled (drop i bytes) ≡ all → new ≡ out ++ doubled (get_or bytes i 0 ∷ [])
    → new ++ doubled (drop (i + 1) bytes) ≡ all
byte_doubled out new all bytes i below left is =
    let b = get_or bytes i 0 in
    let rest = drop (i + 1) bytes in
    let split : drop i bytes ≡ b ∷ rest = rw (add-one, drop-cons bytes i 0) in
    ap (λ front. front ++ doubled rest) is ∙ append_assoc out (doubled (b ∷ [])) (doubled rest)
    ∙ ap (λ back. out ++ back) (sym (first_doubled b rest) ∙ sym (ap doubled split)) ∙ left

pub all_doubled : (out all bytes : List ℕ) (i : ℕ) → length bytes ≤ i → out ++ doubled (drop i bytes) ≡ all → out ≡ all
all_doubled out all bytes i above left = sym (ap (λ rest. out ++ doubled rest) (drop_all i bytes above) ∙ append-nil out) ∙ left

pub ruleset doubling = (byte_doubled, all_doubled)
