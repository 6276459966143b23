-- A text of short statements with few brackets has no fault of its tokens.
use Rattle.std.proofs.Common.{◌≡◌, inl, inr, ℕ, zero, suc, ◌+◌, ◌-◌, ◌≤◌, ◌<◌, Bool, true, false, if◌then◌else◌, List, [], ◌∷◌, map, length, take, drop, Some, None, refl, sym, ap, ◌∙◌, subst, arith, eqb-true}
use Rattle.std.specs.Prelude.{slice_get, ◌||◌, ◌==◌}
use Rattle.std.specs.List.{All}
use Rattle.std.proofs.lemmas.Bool.{or_cases}
use Rattle.std.proofs.lemmas.List.{length-map}
use Rattle.std.proofs.lemmas.List.Elements.{All-cons}
use Rattle.sb_text.specs.Bytes.{begins_word, is_digit}
use Rattle.sb_text.specs.Forms.{IsToken}
use Rattle.sb_text.specs.Depth.{is_open, is_close, depth_after, greatest_depth}
use Rattle.sb_text.specs.Reading.{IsTokenOf}
use Rattle.sb_text.specs.Refusal.{fault_of}
use Rattle.sb_text.specs.Statements.{Part, tokens_of, parts}
use Rattle.sb_text.specs.Tokens.{lexed}
use Rattle.sb_text.specs.declared.token.Token.{Token}
use Rattle.sb_text.specs.declared.token.TokenKind.{TokenKind}
use Rattle.sb_text.specs.declared.token.TokenKind.TheVariants as kind
use Rattle.sb_text.proofs.Laws.{fault_of-accepted}
use Rattle.spelling.specs.Lexemes.{Lexeme, Word, Number, Text, Symbol, MaybeEnded, ended, said, lexeme_of, lexemes_of, statements_in, IsStatements}
use Rattle.star_model.specs.Every.{Every}
use Rattle.spelling.specs.Cursors.{part_said, IsPartOf}
use Rattle.spelling.specs.Shallow.{opens_with, opens, count_opens, IsShallow}
use Rattle.spelling.proofs.Cut.{own_parts}

-- the three bytes that open a bracket
opening : (P : ℕ → Type 0) (b : ℕ) → opens_with b ≡ true → P 40 → P 91 → P 123 → P b
opening P b opens_it round square curly =
    elim (or_cases (b == 40 || b == 91) (b == 123) opens_it) [
      | inl first ↦
          elim (or_cases (b == 40) (b == 91) first) [
            | inl is ↦ subst P (sym (eqb-true b 40 is)) round
            | inr is ↦ subst P (sym (eqb-true b 91 is)) square
          ]
      | inr is ↦ subst P (sym (eqb-true b 123 is)) curly
    ]

abbrev Impossible : (ℕ → Bool) → ℕ → Type 0
Impossible test b = test b ≡ true → ⊥

opens_kind : (k : TokenKind) (first : ℕ) (rest after : List ℕ) → IsToken k (first ∷ rest) after → opens_with first ≡ true → opens (said k (first ∷ rest)) ≡ true
opens_kind kind.Symbol first rest after form is = is
opens_kind kind.Word first rest after form is = absurd (opening (Impossible begins_word) first is (λ e. cc) (λ e. cc) (λ e. cc) form.0)
opens_kind kind.Number first rest after form is = absurd (opening (Impossible is_digit) first is (λ e. cc) (λ e. cc) (λ e. cc) (form.digits 0 0 (omega arith)))
opens_kind kind.Text first rest after form is =
    let quote : first ≡ 39 = let e = form.1 in cc in
    absurd (opening (λ b. b ≡ 39 → ⊥) first is (λ e. omega arith) (λ e. omega arith) (λ e. omega arith) quote)

-- ---- the bytes of a token

drop_first : (xs : List ℕ) (n x : ℕ) → slice_get xs n ≡ Some x → drop n xs ≡ x ∷ drop (suc n) xs
drop_first [] n x at = absurd cc
drop_first (y ∷ xs) zero x at = let same : y ≡ x = cc in ap (λ z. z ∷ xs) same
drop_first (y ∷ xs) (suc n) x at = drop_first xs n x at

take_first : (n x : ℕ) (xs : List ℕ) → 0 < n → (rest : List ℕ) × (take n (x ∷ xs) ≡ x ∷ rest)
take_first zero x xs some = absurd (omega arith)
take_first (suc n) x xs some = (take n xs, refl)

opens_token : (source : List ℕ) (t : Token) → IsTokenOf source t → is_open t ≡ true → opens (lexeme_of source t) ≡ true
opens_token source t is open_ =
    let bytes = take (t.«end» - t.start) (drop t.start source) in
    let after = drop (t.«end» - t.start) (drop t.start source) in
    let front = take_first (t.«end» - t.start) t.first (drop (suc t.start) source) (omega (arith, is.some)) in
    let begins : bytes ≡ t.first ∷ front.0 = ap (take (t.«end» - t.start)) (drop_first source t.start t.first is.first) ∙ front.1 in
    ap (λ l. opens (said t.kind l)) begins ∙ opens_kind t.kind t.first front.0 after (subst (λ l. IsToken t.kind l after) begins is.longest.form) open_

-- ---- how deep a statement nests

count_open : List Token → ℕ
count_open [] = 0
count_open (t ∷ ts) = (if is_open t then 1 else 0) + count_open ts

deeper : (depth : ℕ) (t : Token) (a b : Bool) → is_open t ≡ a → is_close t ≡ b → depth_after depth t ≤ depth + (if is_open t then 1 else 0)
deeper depth t true b p q = rw p (omega arith)
deeper depth t false true p q = rw (p, q) (omega arith)
deeper depth t false false p q = rw (p, q) (omega arith)

depth_bound : (ts : List Token) (depth : ℕ) → greatest_depth depth ts ≤ depth + count_open ts
unfolding count_open
depth_bound [] depth = omega arith
depth_bound (t ∷ ts) depth = omega (arith, depth_bound ts (depth_after depth t), deeper depth t (is_open t) (is_close t) refl refl)

opens_counted : (source : List ℕ) (ts : List Token) → Every (IsTokenOf source) ts → count_open ts ≤ count_opens (lexemes_of source ts)
unfolding count_open
opens_counted source [] every = omega arith
opens_counted source (t ∷ ts) every = omega (arith, one (is_open t) (opens (lexeme_of source t)) (opens_token source t every.0), opens_counted source ts every.1)
  where
    one : (a b : Bool) → (a ≡ true → b ≡ true) → (if a then 1 else 0) ≤ (if b then 1 else 0)
    one true true so = omega arith
    one true false so = let e = so refl in absurd cc
    one false b so = omega arith

record ArePartsShallow (list : List Part) : Type 0 where
  short : All (λ (part : Part). length (tokens_of part) ≤ 4096) list
  shallow : All (λ (part : Part). greatest_depth 0 (tokens_of part) ≤ 32) list

parts_shallow : (text : List ℕ) (list : List Part) (statements : List (List Lexeme)) → Every (IsPartOf text) list → map (part_said text) list ≡ map ended statements → Every IsShallow statements
    → ArePartsShallow list
parts_shallow text [] statements every are shallow = record { short = λ k d less. absurd (omega arith); shallow = λ k d less. absurd (omega arith) }
parts_shallow text (part ∷ list) [] every are shallow = absurd cc
parts_shallow text (part ∷ list) (s ∷ statements) every are shallow =
    let first : part_said text part ≡ ended s = cc in
    let later : map (part_said text) list ≡ map ended statements = cc in
    let lexemes : lexemes_of text part.0 ≡ s = ap (λ (m : MaybeEnded). m.0) first in
    let others = parts_shallow text list statements every.1 later shallow.1 in
    let size = ap (λ (l : List Lexeme). length l) lexemes in
    let opened = ap count_opens lexemes in
    record {
      short = All-cons (λ (p : Part). length (tokens_of p) ≤ 4096) part list (omega (arith, length-map part.0 (lexeme_of text), size, shallow.0.short)) others.short;
      shallow = All-cons (λ (p : Part). greatest_depth 0 (tokens_of p) ≤ 32) part list
          (omega (arith, depth_bound part.0 0, opens_counted text part.0 every.0, opened, shallow.0.few)) others.shallow;
    }

pub no_deep_fault : (text : List ℕ) (statements : List (List Lexeme)) → IsStatements text statements → Every IsShallow statements → fault_of text ≡ None
unfolding statements_in
no_deep_fault text statements are shallow =
    let parts_are = parts_shallow text (parts (lexed text).0) statements (own_parts text) are.are shallow in
    (fault_of-accepted text).1 (record { whole = are.all_tokens; short = parts_are.short; shallow = parts_are.shallow })
