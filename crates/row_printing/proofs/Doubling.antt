-- Texts between quotes, byte by byte.
use Rattle.std.proofs.Common.{◌≡◌, ℕ, ◌+◌, ◌<◌, Bool, true, false, if◌then◌else◌, List, [], ◌∷◌, ◌++◌, take, get_or, length, refl, sym, ap, ◌∙◌, add-one, append_assoc}
use Rattle.std.proofs.Math.Seq.{take-suc}
use Rattle.sb_text.specs.Bytes.{is_quote}
use Rattle.sb_text.specs.Forms.{doubled}

doubled-append : (xs ys : List ℕ) → doubled (xs ++ ys) ≡ doubled xs ++ doubled ys
doubled-append [] ys = refl
doubled-append (b ∷ bytes) ys = by_case (is_quote b) (doubled (bytes ++ ys)) (doubled-append bytes ys)
  where
    by_case : (q : Bool) (both : List ℕ) → both ≡ doubled bytes ++ doubled ys
        → (if q then b ∷ b ∷ both else b ∷ both) ≡ (if q then b ∷ b ∷ doubled bytes else b ∷ doubled bytes) ++ doubled ys
    by_case true both is = ap (λ more. b ∷ b ∷ more) is
    by_case false both is = ap (λ more. b ∷ more) is

more : (bytes : List ℕ) (i : ℕ) → i < length bytes → doubled (take (i + 1) bytes) ≡ doubled (take i bytes) ++ doubled (get_or bytes i 0 ∷ [])
more bytes i low = rw (add-one, take-suc bytes i 0) (doubled-append (take i bytes) (get_or bytes i 0 ∷ []))

-- one byte more
pub byte_more : (out text new bytes : List ℕ) (i : ℕ) → i < length bytes → text ≡ out ++ doubled (take i bytes) → new ≡ text ++ doubled (get_or bytes i 0 ∷ [])
    → new ≡ out ++ doubled (take (i + 1) bytes)
byte_more out text new bytes i low is made =
    made ∙ ap (λ front. front ++ doubled (get_or bytes i 0 ∷ [])) is ∙ append_assoc out (doubled (take i bytes)) (doubled (get_or bytes i 0 ∷ []))
    ∙ ap (λ back. out ++ back) (sym (more bytes i low))
