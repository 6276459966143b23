-- The statements of a list of tokens.
use Rattle.std.proofs.Common.{◌≡◌, ◌+◌, ◌-◌, ◌<◌, ◌≤◌, ◌==◌, ℕ, Bool, true, false, not, List, [], ◌∷◌, ◌++◌, length, take, drop, refl, ap, sym, ◌∙◌, arith, add-one, suc, length-append}
use Rattle.std.proofs.lemmas.List.Sums.{take_while-cons}
use Rattle.std.proofs.lemmas.List.{drop-drop, take_all, length-drop}
use Rattle.std.proofs.lemmas.Bool.{eqb-true}
use Rattle.std.specs.List.{All, AllPass, flat_map, filter}
use Rattle.std.proofs.lemmas.List.Elements.{All-nil, All-cons, All-head, All-tail}
use Rattle.sb_text.specs.declared.token.Token.{Token}
use Rattle.sb_text.specs.Statements.{Part, tokens_of, parts, part_len, is_end, is_inside, put_first}

not-true : (b : Bool) → not b ≡ true → b ≡ false
not-true true e = cc
not-true false e = refl

ended_here : (t : Token) (rest : List Token) → is_end t ≡ true → (part_len (t ∷ rest) ≡ 0) × (parts (t ∷ rest) ≡ ([], true) ∷ parts rest)
ended_here t rest e = (rw e refl, rw e refl)

goes_on : (t : Token) (rest : List Token) → is_end t ≡ false → (part_len (t ∷ rest) ≡ suc (part_len rest)) × (parts (t ∷ rest) ≡ put_first t (parts rest))
goes_on t rest e = (ap length (take_while-cons is_inside t rest) ∙ rw e refl, rw e refl)

with_end_at : (t : Token) (rest : List Token) (b : Bool) → is_end t ≡ b → part_len (t ∷ rest) < length (t ∷ rest)
    → (part_len rest < length rest → parts rest ≡ (take (part_len rest) rest, true) ∷ parts (drop (part_len rest + 1) rest))
    → parts (t ∷ rest) ≡ (take (part_len (t ∷ rest)) (t ∷ rest), true) ∷ parts (drop (part_len (t ∷ rest) + 1) (t ∷ rest))
with_end_at t rest true e lt later = rw ((ended_here t rest e).1, (ended_here t rest e).0) refl
with_end_at t rest false e lt later =
    let go = goes_on t rest e in
    let less : part_len rest < length rest = omega (arith, go.0) in
    rw (go.1, go.0, later less, add-one, add-one) refl

pub with_end : (ts : List Token) → part_len ts < length ts → parts ts ≡ (take (part_len ts) ts, true) ∷ parts (drop (part_len ts + 1) ts)
with_end [] lt = absurd (omega arith)
with_end (t ∷ rest) lt = with_end_at t rest (is_end t) refl lt (with_end rest)

alone : (t : Token) (rest : List Token) → (0 < length rest → parts rest ≡ (rest, false) ∷ []) → put_first t (parts rest) ≡ (t ∷ rest, false) ∷ []
alone t [] later = refl
alone t (u ∷ rest) later = rw (later (omega arith)) refl

pub without_end : (ts : List Token) → length ts ≤ part_len ts → 0 < length ts → parts ts ≡ (ts, false) ∷ []
without_end [] le some = absurd (omega arith)
without_end (t ∷ rest) le some = at_test (is_end t) refl (without_end rest) where
  at_test : (b : Bool) → is_end t ≡ b → (length rest ≤ part_len rest → 0 < length rest → parts rest ≡ (rest, false) ∷ []) → parts (t ∷ rest) ≡ (t ∷ rest, false) ∷ []
  at_test true e later = absurd (omega (arith, (ended_here t rest e).0))
  at_test false e later =
      let go = goes_on t rest e in
      let more : length rest ≤ part_len rest = omega (arith, go.0) in
      go.1 ∙ alone t rest (later more)

not_empty : (ts : List Token) → (length ts == 0) ≡ false → 0 < length ts
not_empty [] e = cc
not_empty (t ∷ ts) e = omega arith

is_empty : (ts : List Token) → (length ts == 0) ≡ true → ts ≡ []
is_empty [] e = refl
is_empty (t ∷ ts) e = absurd (omega (arith, eqb-true (length (t ∷ ts)) 0 e))

drop_one : (n : ℕ) (ts : List Token) → drop 1 (drop n ts) ≡ drop (n + 1) ts
drop_one n ts = drop-drop 1 n ts

pub next_ended : (ts front back rest : List Token) (n : ℕ) → n ≡ part_len ts → front ≡ take n ts → back ≡ drop n ts → rest ≡ drop 1 back → (length back == 0) ≡ false
    → parts ts ≡ (front, true) ∷ parts rest
next_ended ts front back rest n is front_is back_is rest_is some =
    let more = not_empty back some in
    let len : length back ≡ length ts - n = ap length back_is ∙ length-drop n ts in
    let lt : part_len ts < length ts = omega arith in
    let rest_at : rest ≡ drop (n + 1) ts = rest_is ∙ ap (λ (l : List Token). drop 1 l) back_is ∙ drop_one n ts in
    rw (front_is, rest_at, is) (with_end ts lt)

pub next_last : (ts front back : List Token) (n : ℕ) → n ≡ part_len ts → front ≡ take n ts → back ≡ drop n ts → (length back == 0) ≡ true → (length front == 0) ≡ false
    → parts ts ≡ (front, false) ∷ parts back
next_last ts front back n is front_is back_is none some =
    let empty = is_empty back none in
    let len : length back ≡ length ts - n = ap length back_is ∙ length-drop n ts in
    let zero_len : length back ≡ 0 = ap length empty in
    let le : length ts ≤ n = omega arith in
    let whole : front ≡ ts = front_is ∙ take_all n ts le in
    let more : 0 < length ts = rw (← whole) (not_empty front some) in
    rw (whole, empty) (without_end ts (omega arith) more)

-- laws on whole statements

part_len-inside : (front rest : List Token) (semicolon : Token) → AllPass is_inside front → is_end semicolon ≡ true → part_len (front ++ semicolon ∷ rest) ≡ length front
part_len-inside [] rest semicolon inside e = (ended_here semicolon rest e).0
part_len-inside (t ∷ front) rest semicolon inside e =
    let here : is_end t ≡ false = not-true (is_end t) (All-head (λ x. is_inside x ≡ true) t front inside) in
    (goes_on t (front ++ semicolon ∷ rest) here).0 ∙ ap suc (part_len-inside front rest semicolon (All-tail (λ x. is_inside x ≡ true) t front inside) e)

take_front : (front rest : List Token) → take (length front) (front ++ rest) ≡ front
take_front [] rest = refl
take_front (t ∷ front) rest = ap (λ (l : List Token). t ∷ l) (take_front front rest)

drop_front : (front rest : List Token) → drop (length front) (front ++ rest) ≡ rest
drop_front [] rest = refl
drop_front (t ∷ front) rest = drop_front front rest

pub parts-ended : (front rest : List Token) (semicolon : Token) → AllPass is_inside front → is_end semicolon ≡ true → parts (front ++ semicolon ∷ rest) ≡ (front, true) ∷ parts rest
parts-ended front rest semicolon inside e =
    let len = part_len-inside front rest semicolon inside e in
    let whole = with_end (front ++ semicolon ∷ rest) (omega (arith, len, length-append front (semicolon ∷ rest))) in
    let behind : drop (length front + 1) (front ++ semicolon ∷ rest) ≡ rest =
    sym (drop_one (length front) (front ++ semicolon ∷ rest)) ∙ ap (λ (l : List Token). drop 1 l) (drop_front front (semicolon ∷ rest)) in
    whole ∙ rw (len, take_front front (semicolon ∷ rest), behind) refl

part_len-all : (front : List Token) → AllPass is_inside front → part_len front ≡ length front
part_len-all [] inside = refl
part_len-all (t ∷ front) inside =
    let here : is_end t ≡ false = not-true (is_end t) (All-head (λ x. is_inside x ≡ true) t front inside) in
    (goes_on t front here).0 ∙ ap suc (part_len-all front (All-tail (λ x. is_inside x ≡ true) t front inside))

pub parts-open : (front : List Token) → AllPass is_inside front → 0 < length front → parts front ≡ (front, false) ∷ []
parts-open front inside some = without_end front (omega (arith, part_len-all front inside)) some

-- the statements have the tokens between the `;`, in order

flat_map-put_first : (t : Token) (ps : List Part) → flat_map tokens_of (put_first t ps) ≡ t ∷ flat_map tokens_of ps
flat_map-put_first t [] = refl
flat_map-put_first t (p ∷ ps) = refl

pub flat_map-parts : (ts : List Token) → flat_map tokens_of (parts ts) ≡ filter is_inside ts
flat_map-parts [] = refl
flat_map-parts (t ∷ ts) = by_end (is_end t) refl (flat_map-parts ts) where
  by_end : (b : Bool) → is_end t ≡ b → flat_map tokens_of (parts ts) ≡ filter is_inside ts
      → flat_map tokens_of (parts (t ∷ ts)) ≡ filter is_inside (t ∷ ts)
  by_end true e later = rw e later
  by_end false e later = rw e (flat_map-put_first t (parts ts) ∙ ap (λ (l : List Token). t ∷ l) later)

-- what holds of each token holds of each token of a statement

module _ (P : Token → Type 0) where
  abbrev AllIn : Part → Type 0
  AllIn part = All P part.0

  all-put_first : (t : Token) (ps : List Part) → P t → All AllIn ps → All AllIn (put_first t ps)
  all-put_first t [] here all = All-cons AllIn (t ∷ [], false) [] (All-cons P t [] here (All-nil P)) (All-nil AllIn)
  all-put_first t (p ∷ ps) here all =
      All-cons AllIn (t ∷ p.0, p.1) ps (All-cons P t p.0 here (All-head AllIn p ps all)) (All-tail AllIn p ps all)

  pub all-parts : (ts : List Token) → All P ts → All AllIn (parts ts)
  all-parts [] all = All-nil AllIn
  all-parts (t ∷ ts) all = by_end (is_end t) refl (all-parts ts (All-tail P t ts all)) where
    by_end : (b : Bool) → is_end t ≡ b → All AllIn (parts ts) → All AllIn (parts (t ∷ ts))
    by_end true e later = rw e (All-cons AllIn ([], true) (parts ts) (All-nil P) later)
    by_end false e later = rw e (all-put_first t (parts ts) (All-head P t ts all) later)

-- each token of a statement lies between the `;`

inside-put_first : (t : Token) (ps : List Part) → is_inside t ≡ true → All (λ (p : Part). AllPass is_inside p.0) ps → All (λ (p : Part). AllPass is_inside p.0) (put_first t ps)
inside-put_first t ps here all = all-put_first (λ x. is_inside x ≡ true) t ps here all

pub inside-parts : (ts : List Token) → All (λ (p : Part). AllPass is_inside p.0) (parts ts)
inside-parts [] = All-nil (λ (p : Part). AllPass is_inside p.0)
inside-parts (t ∷ ts) = by_end (is_end t) refl (inside-parts ts) where
  by_end : (b : Bool) → is_end t ≡ b → All (λ (p : Part). AllPass is_inside p.0) (parts ts) → All (λ (p : Part). AllPass is_inside p.0) (parts (t ∷ ts))
  by_end true e later = rw e (All-cons (λ (p : Part). AllPass is_inside p.0) ([], true) (parts ts) (All-nil (λ x. is_inside x ≡ true)) later)
  by_end false e later = let here : is_inside t ≡ true = rw e refl in rw e (inside-put_first t (parts ts) here later)
