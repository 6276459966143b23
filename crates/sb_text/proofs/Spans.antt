-- The tokens of a text stand in it, in order.
use Rattle.std.proofs.Common.{◌≡◌, ◌+◌, ◌-◌, ◌≤◌, ℕ, false, ◌==◌, List, [], ◌∷◌, ◌++◌, length, drop, Option, Some, refl, ap, sym, ◌∙◌, arith, suc, zero, length-append}
use Rattle.std.proofs.lemmas.List.{length-drop, drop-drop}
use Rattle.std.specs.List.{All, slice_get}
use Rattle.std.proofs.lemmas.List.Elements.{All-nil, All-cons}
use Rattle.sb_text.specs.declared.token.Token.{Token}
use Rattle.sb_text.specs.declared.token.TokenKind.{TokenKind}
use Rattle.sb_text.specs.Bytes.{is_blank}
use Rattle.sb_text.specs.Front.{IsLongest, gap_at}
use Rattle.sb_text.specs.Tokens.{lexed}
use Rattle.sb_text.specs.Reading.{IsGap, Reads, token_of, IsTokenOf, AreInOrder, Stops}
use Rattle.sb_text.proofs.Gaps.{gap_at-gap, gap_at-none}
use Rattle.sb_text.proofs.Readings.{reading, behind_front}

get_front : (source : List ℕ) (at first : ℕ) (rest : List ℕ) → drop at source ≡ first ∷ rest → slice_get source at ≡ Some first
get_front [] zero first rest is = cc
get_front [] (suc at) first rest is = cc
get_front (b ∷ source) zero first rest is = let same : b ≡ first = cc in ap (λ x. Some x) same
get_front (b ∷ source) (suc at) first rest is = get_front source at first rest is

behind : (source : List ℕ) (at : ℕ) (front after : List ℕ) → drop at source ≡ front ++ after → drop (at + length front) source ≡ after
behind source at front after is = sym (drop-drop (length front) at source) ∙ ap (λ (l : List ℕ). drop (length front) l) is ∙ behind_front front after

room : (source : List ℕ) (at : ℕ) (front after : List ℕ) → drop at source ≡ front ++ after → at ≤ length source → at + length front ≤ length source
room source at front after is le = omega (arith, length-drop at source, ap length is, length-append front after)

-- all of the tokens from a place on
pub record Spans (source : List ℕ) (at : ℕ) (tokens : List Token) : Type 0 where
  pub all : All (IsTokenOf source) tokens
  pub order : (from : ℕ) → from ≤ at → AreInOrder from tokens
  pub count : length tokens + at ≤ length source

token_at_place : (source : List ℕ) (at : ℕ) (kind : TokenKind) (first : ℕ) (rest after : List ℕ) → drop at source ≡ first ∷ (rest ++ after) → at ≤ length source
    → IsLongest kind (length (first ∷ rest)) (first ∷ (rest ++ after)) → IsTokenOf source (token_of kind at first rest)
token_at_place source at kind first rest after is le l =
    let len : (at + length (first ∷ rest)) - at ≡ length (first ∷ rest) = omega arith in
    record {
      some = omega arith;
      within = room source at (first ∷ rest) after is le;
      first = get_front source at first (rest ++ after) is;
      longest = rw (len, is) l;
    }

pub spans : (source : List ℕ) (at : ℕ) (bytes : List ℕ) (tokens : List Token) (stop : Option ℕ) → Reads at bytes tokens stop → drop at source ≡ bytes → at ≤ length source
    → Spans source at tokens
spans source at _ _ _ (Reads.at_end) is le = record { all = All-nil (IsTokenOf source); order = λ from before. tt; count = omega arith }
spans source at _ tokens stop (Reads.gap front after g later) is le =
    let s = spans source (at + length front) after tokens stop later (behind source at front after is) (room source at front after is le) in
    record { all = s.all; order = λ from before. s.order from (omega arith); count = omega (arith, s.count) }
spans source at _ _ stop (Reads.token kind first rest after {tokens} l later) is le =
    let s = spans source (at + length (first ∷ rest)) after tokens stop later (behind source at (first ∷ rest) after is) (room source at (first ∷ rest) after is le) in
    record {
      all = All-cons (IsTokenOf source) (token_of kind at first rest) tokens (token_at_place source at kind first rest after is le l) s.all;
      order = λ from before. (before, s.order (at + length (first ∷ rest)) (omega arith));
      count = omega (arith, s.count);
    }
spans source at _ _ _ (Reads.stopped blank hash none) is le = record { all = All-nil (IsTokenOf source); order = λ from before. tt; count = omega arith }

pub spans-lexed : (source : List ℕ) → Spans source 0 (lexed source).0
spans-lexed source = spans source 0 source (lexed source).0 (lexed source).1 (reading source) refl (omega arith)

no_gap_at : (front after bytes : List ℕ) (b : ℕ) (rest : List ℕ) → is_blank b ≡ false → (b == 35) ≡ false → bytes ≡ b ∷ rest → front ++ after ≡ bytes → IsGap front after → ⊥
no_gap_at front after bytes b rest blank hash is whole g =
    let found = gap_at-gap front after g in
    let none = gap_at-none b rest blank hash in
    let same = ap gap_at (whole ∙ is) in
    omega (arith, found.0, found.1, none, same)

pub stops : (source : List ℕ) (at : ℕ) (bytes : List ℕ) (tokens : List Token) (stop : Option ℕ) (place : ℕ) → Reads at bytes tokens stop → drop at source ≡ bytes → at ≤ length source
    → stop ≡ Some place → Stops source place
stops source at _ _ _ place (Reads.at_end) is le at_place = cc
stops source at _ tokens stop place (Reads.gap front after g later) is le at_place =
    stops source (at + length front) after tokens stop place later (behind source at front after is) (room source at front after is le) at_place
stops source at _ _ stop place (Reads.token kind first rest after {tokens} l later) is le at_place =
    stops source (at + length (first ∷ rest)) after tokens stop place later (behind source at (first ∷ rest) after is) (room source at (first ∷ rest) after is le) at_place
stops source at _ _ _ place (Reads.stopped {b = b} {rest = rest} blank hash none) is le at_place =
    let here : at ≡ place = cc in
    let there : drop place source ≡ b ∷ rest = ap (λ n. drop n source) (sym here) ∙ is in
    record {
      within = omega (arith, length-drop place source, ap length there);
      none = rw there none;
      no_gap = λ front after whole g. no_gap_at front after (drop place source) b rest blank hash there whole g;
    }

pub stops-lexed : (source : List ℕ) (place : ℕ) → (lexed source).1 ≡ Some place → Stops source place
stops-lexed source place is = stops source 0 source (lexed source).0 (lexed source).1 place (reading source) refl (omega arith) is
