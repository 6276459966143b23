-- The relation of reading and the function that reads are one.
use Rattle.std.proofs.Common.{◌≡◌, ◌+◌, ◌≤◌, ◌<◌, ℕ, Bool, true, false, ◌==◌, nat_lt, List, [], ◌∷◌, ◌++◌, length, take, drop, Option, None, Some, refl, ap, sym, ◌∙◌, arith, suc, zero, subst, length-append}
use Rattle.std.proofs.lemmas.Bool.{eqb-true, ltb-true}
use Rattle.std.proofs.lemmas.List.{take-append-drop, length-take-le, length-drop}
use Rattle.std.proofs.lemmas.List.Elements.{All-contains}
use Rattle.std.proofs.lemmas.List.Sums.{AllPass-from_list_all}
use Rattle.sb_text.specs.declared.token.Token.{Token}
use Rattle.sb_text.specs.declared.token.TokenKind.{TokenKind}
use Rattle.sb_text.specs.declared.token.TokenKind.TheVariants.{Word, Number, Text, Symbol}
use Rattle.sb_text.specs.Bytes.{is_blank}
use Rattle.sb_text.specs.Forms.{IsToken, symbols}
use Rattle.sb_text.specs.Front.{token_at, IsLongest}
use Rattle.sb_text.specs.Tokens.{Lexed, lexed, lexed_after, with_front}
use Rattle.sb_text.specs.Reading.{IsGap, Reads, token_of}
use Rattle.sb_text.proofs.Steps.{after_gap, after_token, stuck}
use Rattle.sb_text.proofs.Longest.{longest, longest-token_at, none_begins, none-token_at}
use Rattle.sb_text.proofs.Gaps.{gap_at-gap, gap_at-none, token_no_gap, Gap, blank_gap, comment_gap}

pub behind_front : (front after : List ℕ) → drop (length front) (front ++ after) ≡ after
behind_front [] after = refl
behind_front (b ∷ front) after = behind_front front after

le-front : (front after : List ℕ) → length front ≤ length (front ++ after)
le-front front after = omega (arith, length-append front after)

nothing_read : (at : ℕ) → lexed_after 0 at [] ≡ ([], None)
unfolding lexed_after
nothing_read at = refl

behind_gap : (at : ℕ) (front after : List ℕ) → IsGap front after → lexed_after 0 at (front ++ after) ≡ lexed_after 0 (at + length front) after
behind_gap at front after is =
    let g = gap_at-gap front after is in
    after_gap at (length front) (front ++ after) g.0 g.1 (le-front front after) ∙ ap (λ (l : List ℕ). lexed_after 0 (at + length front) l) (behind_front front after)

behind_token : (at : ℕ) (kind : TokenKind) (first : ℕ) (rest after : List ℕ) → IsLongest kind (length (first ∷ rest)) (first ∷ (rest ++ after))
    → lexed_after 0 at (first ∷ (rest ++ after)) ≡ with_front (token_of kind at first rest ∷ []) (lexed_after 0 (at + length (first ∷ rest)) after)
behind_token at kind first rest after l =
    let found = longest-token_at (first ∷ (rest ++ after)) kind (length (first ∷ rest)) l in
    after_token at (first ∷ (rest ++ after)) (kind, length (first ∷ rest)) (token_no_gap first (rest ++ after) (kind, length (first ∷ rest)) found) found (omega arith) l.within
    ∙ ap (λ (b : List ℕ). with_front (token_of kind at first rest ∷ []) (lexed_after 0 (at + length (first ∷ rest)) b)) (behind_front (first ∷ rest) after)

pub lexed_after-reads : (at : ℕ) (bytes : List ℕ) (tokens : List Token) (stop : Option ℕ) → Reads at bytes tokens stop → lexed_after 0 at bytes ≡ (tokens, stop)
lexed_after-reads at _ _ _ (Reads.at_end) = nothing_read at
lexed_after-reads at _ tokens stop (Reads.gap front after is later) =
    behind_gap at front after is ∙ lexed_after-reads (at + length front) after tokens stop later
lexed_after-reads at _ _ stop (Reads.token kind first rest after {tokens} l later) =
    behind_token at kind first rest after l ∙ ap (λ (x : Lexed). with_front (token_of kind at first rest ∷ []) x) (lexed_after-reads (at + length (first ∷ rest)) after tokens stop later)
lexed_after-reads at _ _ _ (Reads.stopped {b = b} {rest = rest} blank hash none) =
    stuck at (b ∷ rest) (gap_at-none b rest blank hash) (none-token_at (b ∷ rest) none) (omega arith)

-- a reading of the bytes from a place on
pub record Read (at : ℕ) (bytes : List ℕ) : Type 0 where
  pub tokens : List Token
  pub stop : Option ℕ
  pub reads : Reads at bytes tokens stop

token_some : (kind : TokenKind) (front after : List ℕ) → IsToken kind front after → 0 < length front
token_some Word [] after is = absurd is
token_some Word (b ∷ front) after is = omega arith
token_some Number front after is = is.some
token_some Text front after is = omega (arith, ap length is.1)
token_some Symbol front after is =
    let P : List ℕ → Type 0 = λ s. nat_lt 0 (length s) ≡ true in
    ltb-true 0 (length front) (All-contains P symbols front (AllPass-from_list_all (λ s. nat_lt 0 (length s)) symbols refl) is)

longest_some : (kind : TokenKind) (n : ℕ) (bytes : List ℕ) → IsLongest kind n bytes → 0 < n
longest_some kind zero bytes l = absurd (omega (arith, token_some kind [] bytes l.form))
longest_some kind (suc n) bytes l = omega arith

at_gap : (at : ℕ) (bytes : List ℕ) (g : Gap bytes) → Read (at + length g.front) g.after → Read at bytes
at_gap at bytes g later = record {
  tokens = later.tokens;
  stop = later.stop;
  reads = subst (λ (b : List ℕ). Reads at b later.tokens later.stop) g.whole (Reads.gap g.front g.after g.is later.reads);
}

-- a token of `suc n` bytes at the front
at_token : (at : ℕ) (kind : TokenKind) (n b : ℕ) (rest : List ℕ) → IsLongest kind (suc n) (b ∷ rest) → Read (at + suc n) (drop n rest) → Read at (b ∷ rest)
at_token at kind n b rest l later =
    let len : suc n ≡ length (b ∷ take n rest) = omega (arith, length-take-le n rest (omega (arith, l.within))) in
    let whole : rest ≡ take n rest ++ drop n rest = sym (take-append-drop n rest) in
    let long : IsLongest kind (suc n) (b ∷ (take n rest ++ drop n rest)) = subst (λ (r : List ℕ). IsLongest kind (suc n) (b ∷ r)) whole l in
    let here : IsLongest kind (length (b ∷ take n rest)) (b ∷ (take n rest ++ drop n rest)) = subst (λ m. IsLongest kind m (b ∷ (take n rest ++ drop n rest))) len long in
    let behind : Reads (at + length (b ∷ take n rest)) (drop n rest) later.tokens later.stop = subst (λ m. Reads (at + m) (drop n rest) later.tokens later.stop) len later.reads in
    record {
      tokens = token_of kind at b (take n rest) ∷ later.tokens;
      stop = later.stop;
      reads = subst (λ (r : List ℕ). Reads at (b ∷ r) (token_of kind at b (take n rest) ∷ later.tokens) later.stop) (take-append-drop n rest)
          (Reads.token kind b (take n rest) (drop n rest) here behind);
    }

at_other : (n at : ℕ) (b : ℕ) (rest : List ℕ) (found : Option (TokenKind × ℕ)) → token_at (b ∷ rest) ≡ found → is_blank b ≡ false → (b == 35) ≡ false → length rest ≤ n
    → ((at : ℕ) (bytes : List ℕ) → length bytes ≤ n → Read at bytes) → Read at (b ∷ rest)
at_other n at b rest None is blank hash le later = record { tokens = []; stop = Some at; reads = Reads.stopped blank hash (none_begins (b ∷ rest) is) }
at_other n at b rest (Some f) is blank hash le later = by_len f.1 (longest (b ∷ rest) f.0 f.1 is) where
  by_len : (m : ℕ) → IsLongest f.0 m (b ∷ rest) → Read at (b ∷ rest)
  by_len zero l = absurd (omega (arith, longest_some f.0 zero (b ∷ rest) l))
  by_len (suc m) l = at_token at f.0 m b rest l (later (at + suc m) (drop m rest) (omega (arith, length-drop m rest)))

read_within : (n at : ℕ) (bytes : List ℕ) → length bytes ≤ n → Read at bytes
read_within n at [] le = record { tokens = []; stop = None; reads = Reads.at_end }
read_within zero at (b ∷ rest) le = absurd (omega arith)
read_within (suc n) at (b ∷ rest) le = by_first (is_blank b) (b == 35) refl refl (read_within n) where
  by_gap : (g : Gap (b ∷ rest)) → ((at : ℕ) (bytes : List ℕ) → length bytes ≤ n → Read at bytes) → Read at (b ∷ rest)
  by_gap g later =
      let some = (gap_at-gap g.front g.after g.is).1 in
      at_gap at (b ∷ rest) g (later (at + length g.front) g.after (omega (arith, length-append g.front g.after, ap length g.whole)))

  by_first : (p q : Bool) → is_blank b ≡ p → (b == 35) ≡ q → ((at : ℕ) (bytes : List ℕ) → length bytes ≤ n → Read at bytes) → Read at (b ∷ rest)
  by_first true q e f later = by_gap (blank_gap b rest e) later
  by_first false true e f later = by_gap (subst (λ x. Gap (x ∷ rest)) (sym (eqb-true b 35 f)) (comment_gap rest)) later
  by_first false false e f later = at_other n at b rest (token_at (b ∷ rest)) refl e f (omega arith) later

pub reading : (source : List ℕ) → Reads 0 source (lexed source).0 (lexed source).1
unfolding lexed
reading source =
    let r = read_within (length source) 0 source (omega arith) in
    let is = lexed_after-reads 0 source r.tokens r.stop r.reads in
    rw is r.reads

pub one_reading : (source : List ℕ) (tokens : List Token) (stop : Option ℕ) → Reads 0 source tokens stop → lexed source ≡ (tokens, stop)
unfolding lexed
one_reading source tokens stop r = lexed_after-reads 0 source tokens stop r
