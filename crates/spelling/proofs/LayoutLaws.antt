-- The layout of statements is read as these statements.
use Rattle.std.proofs.Common.{◌≡◌, ◌+◌, ◌-◌, ℕ, Bool, true, false, not, ◌==◌, ◌&&◌, ◌||◌, List, [], ◌∷◌, ◌++◌, length, take, drop, map, None, Option, if◌then◌else◌, refl, ap, sym, ◌∙◌, arith, subst, append_assoc, length-append}
use Rattle.std.specs.Prelude.{codes}
use Rattle.std.specs.List.{AllPass, list_all}
use Rattle.std.proofs.lemmas.Bool.{eqb-true}
use Rattle.std.proofs.lemmas.List.{drop-drop}
use Rattle.std.proofs.lemmas.List.Elements.{All-nil, All-cons}
use Rattle.sb_text.specs.declared.token.Token.{Token}
use Rattle.sb_text.specs.declared.token.TokenKind.{TokenKind}
use Rattle.sb_text.specs.Bytes.{is_digit, is_in_word, is_quote}
use Rattle.sb_text.specs.Forms.{NoDouble}
use Rattle.sb_text.specs.Tokens.{text_of}
use Rattle.sb_text.specs.Reading.{IsGap, Reads, token_of}
use Rattle.sb_text.specs.Statements.{Part, parts, is_end, is_inside}
use Rattle.sb_text.proofs.Laws.{one_reading, parts-ended}
use Rattle.star_model.specs.Vectors.{same_numbers}
use Rattle.spelling.specs.Lexemes.{Lexeme, Word, Number, Text, Symbol, said, semicolon, lexeme_of, lexemes_of, ended, statements_in, IsStatements}
use Rattle.star_model.specs.Every.{Every}
use Rattle.spelling.specs.Layout.{written, is_one_of, hangs, leads, calls, gap, spaced, layout, IsLexeme}
use Rattle.spelling.proofs.Written.{kind_of, Follows, begins_semicolon, Shows, shows, shows_symbol, no_semicolon}

-- ---- what stands between two lexemes keeps them apart

same_bytes : (a b : List ℕ) → same_numbers a b ≡ true → a ≡ b
same_bytes [] [] e = refl
same_bytes [] (y ∷ b) e = cc
same_bytes (x ∷ a) [] e = cc
same_bytes (x ∷ a) (y ∷ b) e = by_first (x == y) refl (same_bytes a b) where
  by_first : (q : Bool) → (x == y) ≡ q → (same_numbers a b ≡ true → a ≡ b) → x ∷ a ≡ y ∷ b
  by_first true f later = let rest : same_numbers a b ≡ true = rw f at e in rw (eqb-true x y f, later rest) refl
  by_first false f later = let no : false ≡ true = rw f at e in cc

-- one of the signs, which all pass a test
record OneOf (test : ℕ → Bool) (bytes : List ℕ) : Type 0 where
  sign : ℕ
  is : bytes ≡ sign ∷ []
  passes : test sign ≡ true

one_of : (test : ℕ → Bool) (signs bytes : List ℕ) → list_all test signs ≡ true → is_one_of signs bytes ≡ true → OneOf test bytes
one_of test [] bytes all e = cc
one_of test (s ∷ signs) bytes all e = by_first (same_numbers (s ∷ []) bytes) (test s) refl refl (one_of test signs bytes) where
  by_first : (q p : Bool) → same_numbers (s ∷ []) bytes ≡ q → test s ≡ p → (list_all test signs ≡ true → is_one_of signs bytes ≡ true → OneOf test bytes) → OneOf test bytes
  by_first q false f g later = let no : false ≡ true = rw g at all in cc
  by_first true true f g later = record { sign = s; is = sym (same_bytes (s ∷ []) bytes f); passes = g }
  by_first false true f g later =
      let rest : list_all test signs ≡ true = rw g at all in
      let found : is_one_of signs bytes ≡ true = rw f at e in
      later rest found

-- a byte that goes on with no lexeme
abbrev is_apart : ℕ → Bool
is_apart b = not (is_in_word b) && (not (is_digit b) && (not (is_quote b) && not (b == 61 || b == 62)))

record Apart (b : ℕ) : Type 0 where
  word : is_in_word b ≡ false
  digit : is_digit b ≡ false
  quote : is_quote b ≡ false
  double : (b == 61 || b == 62) ≡ false

apart_from : (b : ℕ) → is_apart b ≡ true → Apart b
apart_from b e = by_tests (is_in_word b) (is_digit b) (is_quote b) (b == 61 || b == 62) refl refl refl refl e where
  by_tests : (p q r s : Bool) → is_in_word b ≡ p → is_digit b ≡ q → is_quote b ≡ r → (b == 61 || b == 62) ≡ s
      → (not p && (not q && (not r && not s))) ≡ true → Apart b
  by_tests false false false false f g h i all = record { word = f; digit = g; quote = h; double = i }
  by_tests false false false true f g h i all = cc
  by_tests false false true s f g h i all = cc
  by_tests false true r s f g h i all = cc
  by_tests true q r s f g h i all = cc

not_double : (p q r s : Bool) → (r || s) ≡ false → ((p && (r || s)) || (q && r)) ≡ false
not_double p q true s e = cc
not_double p q false true e = cc
not_double true true false false e = refl
not_double true false false false e = refl
not_double false true false false e = refl
not_double false false false false e = refl

apart_double : (bytes : List ℕ) (b : ℕ) (rest : List ℕ) → Apart b → NoDouble bytes (b ∷ rest)
apart_double [] b rest a = tt
apart_double (s ∷ []) b rest a = not_double (s == 60) (s == 62) (b == 61) (b == 62) a.double
apart_double (s ∷ t ∷ bytes) b rest a = tt

apart_follows : (x : Lexeme) (b : ℕ) (rest : List ℕ) → Apart b → Follows x (b ∷ rest)
apart_follows (Word bytes) b rest a = a.word
apart_follows (Number n) b rest a = a.digit
apart_follows (Text bytes) b rest a = a.quote
apart_follows (Symbol bytes) b rest a = apart_double bytes b rest a

space_follows : (x : Lexeme) (rest : List ℕ) → Follows x (32 ∷ rest)
space_follows x rest = apart_follows x 32 rest (apart_from 32 refl)

sign_follows : (x : Lexeme) (signs bytes rest : List ℕ) → list_all is_apart signs ≡ true → is_one_of signs bytes ≡ true → Follows x (bytes ++ rest)
sign_follows x signs bytes rest all e =
    let o = one_of is_apart signs bytes all e in
    rw o.is (apart_follows x o.sign rest (apart_from o.sign o.passes))

hanging_follows : (x y : Lexeme) (rest : List ℕ) → hangs y ≡ true → Follows x (written y ++ rest)
hanging_follows x (Word bytes) rest e = cc
hanging_follows x (Number n) rest e = cc
hanging_follows x (Text bytes) rest e = cc
hanging_follows x (Symbol bytes) rest e = sign_follows x (codes ",;)]}.") bytes rest refl e

called_follows : (x y : Lexeme) (rest : List ℕ) → calls x y ≡ true → Follows x (written y ++ rest)
called_follows (Number n) y rest e = cc
called_follows (Text bytes) y rest e = cc
called_follows (Symbol bytes) y rest e = cc
called_follows (Word name) (Word bytes) rest e = cc
called_follows (Word name) (Number n) rest e = cc
called_follows (Word name) (Text bytes) rest e = cc
called_follows (Word name) (Symbol bytes) rest e = sign_follows (Word name) (codes "([") bytes rest refl e

abbrev is_single : ℕ → Bool
is_single b = not (b == 60) && not (b == 62)

single_alone : (s : ℕ) (after : List ℕ) → is_single s ≡ true → NoDouble (s ∷ []) after
single_alone s [] e = tt
single_alone s (c ∷ rest) e = by_tests (s == 60) (s == 62) (c == 61) (c == 62) e where
  by_tests : (p q r t : Bool) → (not p && not q) ≡ true → ((p && (r || t)) || (q && r)) ≡ false
  by_tests false false r t both = refl
  by_tests false true r t both = cc
  by_tests true q r t both = cc

leading_follows : (x : Lexeme) (after : List ℕ) → leads x ≡ true → Follows x after
leading_follows (Word bytes) after e = cc
leading_follows (Number n) after e = cc
leading_follows (Text bytes) after e = cc
leading_follows (Symbol bytes) after e =
    let o = one_of is_single (codes "([{.") bytes refl e in
    rw o.is (single_alone o.sign after o.passes)

-- between two lexemes stands one space, or nothing where they are apart without it
gap_follows : (x y : Lexeme) (rest : List ℕ) → Follows x (gap x y ++ (written y ++ rest))
gap_follows x y rest = by_tests (hangs y) (leads x) (calls x y) refl refl refl where
  by_tests : (p q r : Bool) → hangs y ≡ p → leads x ≡ q → calls x y ≡ r → Follows x (gap x y ++ (written y ++ rest))
  by_tests true q r e f g = rw e (hanging_follows x y rest e)
  by_tests false true r e f g = rw (e, f) (leading_follows x (written y ++ rest) f)
  by_tests false false true e f g = rw (e, f, g) (called_follows x y rest g)
  by_tests false false false e f g = rw (e, f, g) (space_follows x (written y ++ rest))

-- ---- a lexeme, a gap and a line are read

take_front : (front after : List ℕ) → take (length front) (front ++ after) ≡ front
take_front [] after = refl
take_front (b ∷ front) after = ap (λ (l : List ℕ). b ∷ l) (take_front front after)

drop_front : (front after : List ℕ) → drop (length front) (front ++ after) ≡ after
drop_front [] after = refl
drop_front (b ∷ front) after = drop_front front after

pub behind : (source : List ℕ) (at : ℕ) (front after : List ℕ) → drop at source ≡ front ++ after → drop (at + length front) source ≡ after
behind source at front after is = sym (drop-drop (length front) at source) ∙ ap (λ (l : List ℕ). drop (length front) l) is ∙ drop_front front after

-- a token at a place, and the lexeme that it says
record Token_at (source : List ℕ) (at : ℕ) (x : Lexeme) (bytes after : List ℕ) (later : List Token) (stop : Option ℕ) : Type 0 where
  token : Token
  reads : Reads at (bytes ++ after) (token ∷ later) stop
  says : lexeme_of source token ≡ x
  first : is_end token ≡ begins_semicolon bytes

token_text : (source : List ℕ) (at : ℕ) (kind : TokenKind) (first : ℕ) (rest after : List ℕ) → drop at source ≡ (first ∷ rest) ++ after
    → text_of source (token_of kind at first rest) ≡ first ∷ rest
token_text source at kind first rest after is =
    let len : (at + length (first ∷ rest)) - at ≡ length (first ∷ rest) = omega arith in
    rw (len, is) (take_front (first ∷ rest) after)

reads_lexeme : (x : Lexeme) (bytes : List ℕ) (source : List ℕ) (at : ℕ) (after : List ℕ) (later : List Token) (stop : Option ℕ) → Shows x bytes → Follows x after
    → drop at source ≡ bytes ++ after → Reads (at + length bytes) after later stop → Token_at source at x bytes after later stop
reads_lexeme x [] source at after later stop s follows is behind = absurd (omega (arith, s.some))
reads_lexeme x (first ∷ rest) source at after later stop s follows is behind = record {
  token = token_of (kind_of x) at first rest;
  reads = Reads.token (kind_of x) first rest after (s.longest after follows) behind;
  says = ap (λ (l : List ℕ). said (kind_of x) l) (token_text source at (kind_of x) first rest after is) ∙ s.says;
  first = refl;
}

abbrev space_unless : Bool → List ℕ
space_unless b = if b then [] else 32 ∷ []

reads_if : (b : Bool) (at : ℕ) (after : List ℕ) (later : List Token) (stop : Option ℕ) → Reads (at + length (space_unless b)) after later stop
    → Reads at (space_unless b ++ after) later stop
reads_if true at after later stop r = let same : at + 0 ≡ at = omega arith in subst (λ n. Reads n after later stop) same r
reads_if false at after later stop r = Reads.gap (32 ∷ []) after (IsGap.blank 32 refl refl) r

reads_gap : (x y : Lexeme) (at : ℕ) (after : List ℕ) (later : List Token) (stop : Option ℕ) → Reads (at + length (gap x y)) after later stop → Reads at (gap x y ++ after) later stop
reads_gap x y at after later stop r = reads_if (hangs y || leads x || calls x y) at after later stop r

-- the lexeme that stands behind those of a statement so far
abbrev next : List Lexeme → Lexeme
next [] = semicolon
next (y ∷ xs) = y

abbrev with_end : List Lexeme → List Lexeme
with_end xs = xs ++ semicolon ∷ []

spaced-cons : (x : Lexeme) (xs : List Lexeme) → spaced (with_end (x ∷ xs)) ≡ written x ++ (gap x (next xs) ++ spaced (with_end xs))
spaced-cons x [] = refl
spaced-cons x (y ∷ xs) = refl

-- what is spaced begins with its first lexeme
record Begins (xs : List Lexeme) : Type 0 where
  rest : List ℕ
  is : spaced (with_end xs) ≡ written (next xs) ++ rest

begins : (xs : List Lexeme) → Begins xs
begins [] = record { rest = []; is = refl }
begins (x ∷ []) = record { rest = gap x semicolon ++ spaced (with_end []); is = refl }
begins (x ∷ y ∷ xs) = record { rest = gap x y ++ spaced (with_end (y ∷ xs)); is = refl }

follows_gap : (x : Lexeme) (xs : List Lexeme) (after : List ℕ) → Follows x (gap x (next xs) ++ (spaced (with_end xs) ++ after))
follows_gap x xs after =
    let b = begins xs in
    let whole : spaced (with_end xs) ++ after ≡ written (next xs) ++ (b.rest ++ after) = ap (λ (l : List ℕ). l ++ after) b.is ∙ append_assoc (written (next xs)) b.rest after in
    subst (λ (l : List ℕ). Follows x (gap x (next xs) ++ l)) (sym whole) (gap_follows x (next xs) (b.rest ++ after))

-- these bytes are read as the tokens of a statement and its `;`
record Spaced (source : List ℕ) (at : ℕ) (xs : List Lexeme) (bytes after : List ℕ) (later : List Token) (stop : Option ℕ) : Type 0 where
  pub tokens : List Token
  last : Token
  reads : Reads at (bytes ++ after) (tokens ++ last ∷ later) stop
  inside : AllPass is_inside tokens
  ends : is_end last ≡ true
  says : lexemes_of source tokens ≡ xs

semicolon_shows : Shows semicolon (codes ";")
semicolon_shows = shows_symbol (codes ";") (7, omega arith, refl)

regrouped : (whole w g s after : List ℕ) → whole ≡ w ++ (g ++ s) → whole ++ after ≡ w ++ (g ++ (s ++ after))
regrouped whole w g s after is = rw is (append_assoc w (g ++ s) after ∙ ap (λ (l : List ℕ). w ++ l) (append_assoc g s after))

ends_at : (at : ℕ) (whole w g s : List ℕ) → whole ≡ w ++ (g ++ s) → at + length whole ≡ ((at + length w) + length g) + length s
ends_at at whole w g s is = omega (arith, ap length is, length-append w (g ++ s), length-append g s)

inside_token : (t : Token) (bytes : List ℕ) → is_end t ≡ begins_semicolon bytes → begins_semicolon bytes ≡ false → is_inside t ≡ true
inside_token t bytes first no_end = let other : is_end t ≡ false = first ∙ no_end in rw other refl

-- A lexeme, written, and a gap stand before what is spaced behind them.
reads_front : (x : Lexeme) (xs : List Lexeme) (whole w g s source : List ℕ) (at : ℕ) (after : List ℕ) (later : List Token) (stop : Option ℕ)
    → whole ≡ w ++ (g ++ s) → Shows x w → begins_semicolon w ≡ false → Follows x (g ++ (s ++ after))
    → ((at : ℕ) (tokens : List Token) → Reads (at + length g) (s ++ after) tokens stop → Reads at (g ++ (s ++ after)) tokens stop)
    → drop at source ≡ whole ++ after → Reads (at + length whole) after later stop
    → ((at : ℕ) → drop at source ≡ s ++ after → Reads (at + length s) after later stop → Spaced source at xs s after later stop)
    → Spaced source at (x ∷ xs) whole after later stop
reads_front x xs whole w g s source at after later stop parts_are shown no_end follows through_gap is behind_it rest =
    let grouped = regrouped whole w g s after parts_are in
    let here : drop at source ≡ w ++ (g ++ (s ++ after)) = is ∙ grouped in
    let place = behind source (at + length w) g (s ++ after) (behind source at w (g ++ (s ++ after)) here) in
    let l = rest ((at + length w) + length g) place (subst (λ n. Reads n after later stop) (ends_at at whole w g s parts_are) behind_it) in
    let through = through_gap (at + length w) (l.tokens ++ l.last ∷ later) l.reads in
    let t = reads_lexeme x w source at (g ++ (s ++ after)) (l.tokens ++ l.last ∷ later) stop shown follows here through in
    record {
      tokens = t.token ∷ l.tokens;
      last = l.last;
      reads = subst (λ (b : List ℕ). Reads at b (t.token ∷ (l.tokens ++ l.last ∷ later)) stop) (sym grouped) t.reads;
      inside = All-cons (λ y. is_inside y ≡ true) t.token l.tokens (inside_token t.token w t.first no_end) l.inside;
      ends = l.ends;
      says = rw (t.says, l.says) refl;
    }

reads_line : (xs : List Lexeme) (source : List ℕ) (at : ℕ) (after : List ℕ) (later : List Token) (stop : Option ℕ) → Every IsLexeme xs
    → drop at source ≡ spaced (with_end xs) ++ after → Reads (at + length (spaced (with_end xs))) after later stop → Spaced source at xs (spaced (with_end xs)) after later stop
reads_line [] source at after later stop all is behind_it =
    let t = reads_lexeme semicolon (codes ";") source at after later stop semicolon_shows (single_alone 59 after refl) is behind_it in
    record { tokens = []; last = t.token; reads = t.reads; inside = All-nil (λ x. is_inside x ≡ true); ends = t.first; says = refl }
reads_line (x ∷ xs) source at after later stop all is behind_it =
    reads_front x xs (spaced (with_end (x ∷ xs))) (written x) (gap x (next xs)) (spaced (with_end xs)) source at after later stop
    (spaced-cons x xs) (shows x all.0) (no_semicolon x all.0) (follows_gap x xs after)
    (λ at tokens r. reads_gap x (next xs) at (spaced (with_end xs) ++ after) tokens stop r) is behind_it
    (λ at is r. reads_line xs source at after later stop all.1 is r)

-- ---- the whole layout

pub record Laid (source : List ℕ) (at : ℕ) (statements : List (List Lexeme)) : Type 0 where
  pub tokens : List Token
  pub reads : Reads at (layout statements) tokens None
  pub says : map (λ (part : Part). (lexemes_of source part.0, part.1)) (parts tokens) ≡ map ended statements

layout-cons : (statement : List Lexeme) (later : List (List Lexeme)) → layout (statement ∷ later) ≡ spaced (with_end statement) ++ (10 ∷ layout later)
unfolding layout
layout-cons statement later = append_assoc (spaced (with_end statement)) (10 ∷ []) (layout later)

laid_none : (source : List ℕ) (at : ℕ) → Laid source at []
unfolding layout
laid_none source at = record { tokens = []; reads = Reads.at_end; says = refl }

pub lay : (statements : List (List Lexeme)) (source : List ℕ) (at : ℕ) → Every (Every IsLexeme) statements → drop at source ≡ layout statements → Laid source at statements
lay [] source at all is = laid_none source at
lay (s ∷ later) source at all is =
    let S = spaced (with_end s) in
    let here : drop at source ≡ S ++ (10 ∷ layout later) = is ∙ layout-cons s later in
    let feed : drop (at + length S) source ≡ 10 ∷ layout later = behind source at S (10 ∷ layout later) here in
    let place : drop ((at + length S) + 1) source ≡ layout later = behind source (at + length S) (10 ∷ []) (layout later) feed in
    let rest = lay later source ((at + length S) + 1) all.1 place in
    let fed = Reads.gap (10 ∷ []) (layout later) (IsGap.blank 10 refl refl) rest.reads in
    let l = reads_line s source at (10 ∷ layout later) rest.tokens None all.0 here fed in
    record {
      tokens = l.tokens ++ l.last ∷ rest.tokens;
      reads = subst (λ (b : List ℕ). Reads at b (l.tokens ++ l.last ∷ rest.tokens) None) (sym (layout-cons s later)) l.reads;
      says = rw (parts-ended l.tokens rest.tokens l.last l.inside l.ends, l.says, rest.says) refl;
    }

pub statements_of_layout : (statements : List (List Lexeme)) → Every (Every IsLexeme) statements → IsStatements (layout statements) statements
unfolding statements_in
statements_of_layout statements all =
    let l = lay statements (layout statements) 0 all refl in
    let read = one_reading (layout statements) l.tokens None l.reads in
    record { all_tokens = rw read refl; are = rw read l.says }
