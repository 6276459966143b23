-- How a text is read, in the format's words: a relation beside the function that computes it.
use Rattle.std.specs.Prelude.{◌≡◌, ◌+◌, ◌-◌, ◌<◌, ◌≤◌, ℕ, IsTrue, ◌==◌, List, [], ◌∷◌, ◌++◌, length, drop, slice_get, Option, None, Some}
use Rattle.std.specs.List.{AllPass}
use Rattle.std.specs.Bool.{IsFalse}
use Rattle.sb_text.specs.declared.token.Token.{Token}
use Rattle.sb_text.specs.declared.token.TokenKind.{TokenKind}
use Rattle.sb_text.specs.Bytes.{is_blank}
use Rattle.sb_text.specs.Forms.{NotFirst}
use Rattle.sb_text.specs.Front.{in_comment, IsLongest, NoneBegins}

-- what stands between tokens, where these bytes follow: a byte of white space, or `#` and all up to the next LF or the end
pub data IsGap (gap after : List ℕ) : Type 0 where
  blank : (b : ℕ) → gap ≡ b ∷ [] → IsTrue (is_blank b) → IsGap gap after
  comment : (text : List ℕ) → gap ≡ 35 ∷ text → AllPass in_comment text → NotFirst in_comment after → IsGap gap after

-- the token of this kind whose text is these bytes at this place
abbrev pub token_of : TokenKind → ℕ → ℕ → List ℕ → Token
token_of kind at first rest = record { kind = kind; start = at; «end» = at + length (first ∷ rest); first = first }

-- the bytes from a place on are read as these tokens, up to their end or to a place at which no token begins
pub data Reads : ℕ → List ℕ → List Token → Option ℕ → Type 0 where
  at_end : {at : ℕ} → Reads at [] [] None
  gap : {at : ℕ} (front after : List ℕ) {tokens : List Token} {stop : Option ℕ} → IsGap front after
      → Reads (at + length front) after tokens stop → Reads at (front ++ after) tokens stop
  token : {at : ℕ} (kind : TokenKind) (first : ℕ) (rest after : List ℕ) {tokens : List Token} {stop : Option ℕ}
      → IsLongest kind (length (first ∷ rest)) (first ∷ (rest ++ after))
      → Reads (at + length (first ∷ rest)) after tokens stop → Reads at (first ∷ (rest ++ after)) (token_of kind at first rest ∷ tokens) stop
  stopped : {at b : ℕ} {rest : List ℕ} → IsFalse (is_blank b) → IsFalse (b == 35) → NoneBegins (b ∷ rest) → Reads at (b ∷ rest) [] (Some at)

-- a token of the source: its text is the longest token where it begins
pub record IsTokenOf (source : List ℕ) (t : Token) : Type 0 where
  pub some : t.start < t.«end»
  pub within : t.«end» ≤ length source
  pub first : slice_get source t.start ≡ Some t.first
  pub longest : IsLongest t.kind (t.«end» - t.start) (drop t.start source)

-- each token begins at or after the end of the one before
abbrev pub AreInOrder : ℕ → List Token → Type 0
AreInOrder from [] = Unit {0}
AreInOrder from (t ∷ ts) = (from ≤ t.start) × AreInOrder t.«end» ts

-- a place of the source at which neither a token nor anything between tokens begins
pub record Stops (source : List ℕ) (at : ℕ) : Type 0 where
  pub within : at < length source
  pub none : NoneBegins (drop at source)
  pub no_gap : (front after : List ℕ) → front ++ after ≡ drop at source → IsGap front after → ⊥
