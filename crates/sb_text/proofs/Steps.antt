-- One step of the reader of tokens.
use Rattle.std.proofs.Common.{◌≡◌, ◌+◌, ◌-◌, ◌<◌, ◌≤◌, ℕ, List, [], ◌∷◌, ◌++◌, length, drop, get_or, None, Some, refl, ap, sym, ◌∙◌, arith, append_assoc, zero, suc}
use Rattle.std.proofs.lemmas.List.{drop-drop, append-nil, drop_all}
use Rattle.sb_text.specs.declared.token.Token.{Token}
use Rattle.sb_text.specs.declared.token.TokenKind.{TokenKind}
use Rattle.sb_text.specs.Tokens.{lexed_after, lexed, Lexed, with_front, token}
use Rattle.sb_text.specs.Front.{token_at, gap_at}

-- bytes that belong to what stood before are passed over
pub skipped : (n at : ℕ) (bytes : List ℕ) → n ≤ length bytes → lexed_after n at bytes ≡ lexed_after 0 (at + n) (drop n bytes)
unfolding lexed_after
skipped zero at bytes le = ap (λ i. lexed_after 0 i bytes) (omega arith)
skipped (suc n) at [] le = refl
skipped (suc n) at (b ∷ bytes) le =
    skipped n (at + 1) bytes (omega arith) ∙ ap (λ i. lexed_after 0 i (drop n bytes)) (omega arith)

gap_first : (b at : ℕ) (rest : List ℕ) (n : ℕ) → gap_at (b ∷ rest) ≡ suc n → lexed_after 0 at (b ∷ rest) ≡ lexed_after n (at + 1) rest
unfolding lexed_after
gap_first b at rest n is = rw is refl

pub after_gap : (at n : ℕ) (bytes : List ℕ) → gap_at bytes ≡ n → 0 < n → n ≤ length bytes → lexed_after 0 at bytes ≡ lexed_after 0 (at + n) (drop n bytes)
after_gap at n [] is some le = absurd (omega arith)
after_gap at zero (b ∷ rest) is some le = absurd (omega arith)
after_gap at (suc n) (b ∷ rest) is some le =
    gap_first b at rest n is ∙ skipped n (at + 1) rest (omega arith) ∙ ap (λ i. lexed_after 0 i (drop n rest)) (omega arith)

behind : (n at b : ℕ) (rest : List ℕ) → 0 < n → n ≤ length (b ∷ rest) → lexed_after (n - 1) (at + 1) rest ≡ lexed_after 0 (at + n) (drop n (b ∷ rest))
behind zero at b rest some le = absurd (omega arith)
behind (suc n) at b rest some le =
    let less : suc n - 1 ≡ n = omega arith in
    rw less (skipped n (at + 1) rest (omega arith) ∙ ap (λ i. lexed_after 0 i (drop n rest)) (omega arith))

pub after_token : (at : ℕ) (bytes : List ℕ) (found : TokenKind × ℕ) → gap_at bytes ≡ 0 → token_at bytes ≡ Some found → 0 < found.1 → found.1 ≤ length bytes
    → lexed_after 0 at bytes ≡ with_front (token (get_or bytes 0 0) at found ∷ []) (lexed_after 0 (at + found.1) (drop found.1 bytes))
unfolding lexed_after
after_token at [] found no_gap is some le = absurd (omega arith)
after_token at (b ∷ rest) found no_gap is some le =
    let later : lexed_after (found.1 - 1) (at + 1) rest ≡ lexed_after 0 (at + found.1) (drop found.1 (b ∷ rest)) = behind found.1 at b rest some le in
    rw (no_gap, is) (ap (λ l. with_front (token b at found ∷ []) l) later)

pub stuck : (at : ℕ) (bytes : List ℕ) → gap_at bytes ≡ 0 → token_at bytes ≡ None → 0 < length bytes → lexed_after 0 at bytes ≡ ([], Some at)
unfolding lexed_after
stuck at [] no_gap none some = absurd (omega arith)
stuck at (b ∷ rest) no_gap none some = rw (no_gap, none) refl

pub front_front : (a b : List Token) (found : Lexed) → with_front a (with_front b found) ≡ with_front (a ++ b) found
front_front a b found = ap (λ (l : List Token). (l, found.1)) (sym (append_assoc a b found.0))

pub starts : (source : List ℕ) → with_front [] (lexed_after 0 0 source) ≡ lexed source
unfolding lexed
starts source = refl

pub goes_behind_gap : (tokens : List Token) (at n : ℕ) (source : List ℕ) (whole : Lexed) → n ≡ gap_at (drop at source) → 0 < n → n ≤ length (drop at source)
    → with_front tokens (lexed_after 0 at (drop at source)) ≡ whole → with_front tokens (lexed_after 0 (at + n) (drop (at + n) source)) ≡ whole
goes_behind_gap tokens at n source whole is some le before =
    ap (λ l. with_front tokens l)
    (ap (λ rest. lexed_after 0 (at + n) rest) (sym (drop-drop n at source)) ∙ sym (after_gap at n (drop at source) (sym is) some le))
    ∙ before

pub goes_behind_token : (tokens : List Token) (at : ℕ) (found : TokenKind × ℕ) (source : List ℕ) (whole : Lexed) → 0 ≡ gap_at (drop at source) → Some found ≡ token_at (drop at source) → 0 < found.1 → found.1 ≤ length (drop at source)
    → with_front tokens (lexed_after 0 at (drop at source)) ≡ whole → with_front (tokens ++ token (get_or (drop at source) 0 0) at found ∷ []) (lexed_after 0 (at + found.1) (drop (at + found.1) source)) ≡ whole
goes_behind_token tokens at found source whole no_gap is some le before =
    sym (front_front tokens (token (get_or (drop at source) 0 0) at found ∷ []) (lexed_after 0 (at + found.1) (drop (at + found.1) source)))
    ∙ ap (λ l. with_front tokens l)
    (ap (λ rest. with_front (token (get_or (drop at source) 0 0) at found ∷ []) (lexed_after 0 (at + found.1) rest)) (sym (drop-drop found.1 at source))
    ∙ sym (after_token at (drop at source) found (sym no_gap) (sym is) some le))
    ∙ before

pub stops : (tokens : List Token) (at : ℕ) (source : List ℕ) (whole : Lexed) → 0 ≡ gap_at (drop at source) → None ≡ token_at (drop at source) → 0 < length (drop at source)
    → with_front tokens (lexed_after 0 at (drop at source)) ≡ whole → whole.1 ≡ Some at
stops tokens at source whole no_gap none some before =
    ap (λ (l : Lexed). l.1) (sym before) ∙ ap (λ (l : Lexed). l.1) (stuck at (drop at source) (sym no_gap) (sym none) some)

pub ends : (tokens : List Token) (at : ℕ) (source : List ℕ) (whole : Lexed) → length source ≤ at
    → with_front tokens (lexed_after 0 at (drop at source)) ≡ whole → whole ≡ (tokens, None)
unfolding lexed_after
ends tokens at source whole le before =
    sym before ∙ ap (λ rest. with_front tokens (lexed_after 0 at rest)) (drop_all at source le) ∙ ap (λ (ts : List Token). (ts, None)) (append-nil tokens)
