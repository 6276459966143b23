-- The tokens of a text.
use Rattle.std.specs.Prelude.{◌+◌, ◌-◌, ℕ, List, [], ◌∷◌, ◌++◌, slice_range, Option, None, Some}
use Prim.Native.Nat.{zero, suc}
use Rattle.sb_text.specs.declared.token.Token.{Token}
use Rattle.sb_text.specs.declared.token.TokenKind.{TokenKind}
use Rattle.sb_text.specs.Front.{gap_at, token_at}

-- tokens, and the place at which none begins, where there is one
abbrev pub Lexed : Type 0
Lexed = List Token × Option ℕ

abbrev pub with_front : List Token → Lexed → Lexed
with_front front lexed = (front ++ lexed.0, lexed.1)

abbrev pub token : ℕ → ℕ → TokenKind × ℕ → Token
token first at found = record { kind = found.0; start = at; «end» = at + found.1; first = first }

-- behind a gap and behind a token the reading goes on, and where there is neither it stops
abbrev pub step : ℕ → ℕ → Option (TokenKind × ℕ) → ℕ → (ℕ → Lexed) → Lexed
step first (suc skip) found at later = later skip
step first zero (Some found) at later = with_front (token first at found ∷ []) (later (found.1 - 1))
step first zero None at later = ([], Some at)

-- the tokens of the bytes from a place on, where the first `skip` of them belong to what stood before
unfoldable pub lexed_after : ℕ → ℕ → List ℕ → Lexed
lexed_after skip at [] = ([], None)
lexed_after (suc skip) at (b ∷ rest) = lexed_after skip (at + 1) rest
lexed_after zero at (b ∷ rest) = step b (gap_at (b ∷ rest)) (token_at (b ∷ rest)) at (λ skip. lexed_after skip (at + 1) rest)

unfoldable pub lexed : List ℕ → Lexed
lexed source = lexed_after 0 0 source

-- the bytes of a token
abbrev pub text_of : List ℕ → Token → List ℕ
text_of source t = slice_range source t.start t.«end»
