-- What is written lexeme by lexeme stands in canonical layout.
use Rattle.std.proofs.Common.{◌≡◌, ℕ, Bool, true, false, ◌||◌, if◌then◌else◌, List, [], ◌∷◌, ◌++◌, codes, refl, sym, ap, ◌∙◌, append_assoc, append-nil}
use Rattle.spelling.specs.declared.ending.Ending.{Ending}
use Rattle.spelling.specs.declared.ending.Ending.TheVariants as ending
use Rattle.spelling.specs.Lexemes.{Lexeme, Word, Number, Text, Symbol, semicolon}
use Rattle.spelling.specs.Layout.{written, is_one_of, hangs, leads, calls, gap, spaced, line, layout}
use Rattle.spelling.specs.Writing.{ending_of, symbol_hangs, is_open, follows, Written, whole, put, puts, ended, lines}

-- ---- the space between two lexemes

or_false : (b : Bool) → (b || false) ≡ b
or_false true = refl
or_false false = refl

or_true : (b : Bool) → (b || true) ≡ true
or_true true = refl
or_true false = refl

open_after : (l : Bool) → is_open (if l then ending.Open else ending.Closed) ≡ ((false || l) || false)
open_after true = refl
open_after false = refl

hangs_after : (l : Bool) (bytes : List ℕ) → symbol_hangs (if l then ending.Open else ending.Closed) bytes ≡ ((hangs (Symbol bytes) || l) || false)
hangs_after true bytes = sym (or_false _ ∙ or_true (hangs (Symbol bytes)))
hangs_after false bytes = sym (or_false _ ∙ or_false (hangs (Symbol bytes)))

follows_lexeme : (x y : Lexeme) → follows (ending_of x) y ≡ (hangs y || leads x || calls x y)
follows_lexeme (Word name) (Word bytes) = refl
follows_lexeme (Word name) (Number n) = refl
follows_lexeme (Word name) (Text bytes) = refl
follows_lexeme (Word name) (Symbol bytes) = ap (λ b. b || is_one_of (codes "([") bytes) (sym (or_false (hangs (Symbol bytes))))
follows_lexeme (Number m) (Word bytes) = refl
follows_lexeme (Number m) (Number n) = refl
follows_lexeme (Number m) (Text bytes) = refl
follows_lexeme (Number m) (Symbol bytes) = hangs_after false bytes
follows_lexeme (Text text) (Word bytes) = refl
follows_lexeme (Text text) (Number n) = refl
follows_lexeme (Text text) (Text bytes) = refl
follows_lexeme (Text text) (Symbol bytes) = hangs_after false bytes
follows_lexeme (Symbol sign) (Word bytes) = open_after (leads (Symbol sign))
follows_lexeme (Symbol sign) (Number n) = open_after (leads (Symbol sign))
follows_lexeme (Symbol sign) (Text bytes) = open_after (leads (Symbol sign))
follows_lexeme (Symbol sign) (Symbol bytes) = hangs_after (leads (Symbol sign)) bytes

follows_open : (x : Lexeme) → follows ending.Open x ≡ true
follows_open (Word bytes) = refl
follows_open (Number n) = refl
follows_open (Text bytes) = refl
follows_open (Symbol bytes) = refl

follows_semicolon : (e : Ending) → follows e semicolon ≡ true
follows_semicolon ending.Open = refl
follows_semicolon ending.Name = refl
follows_semicolon ending.Closed = refl

-- ---- the bytes of a statement behind an ending

abbrev space_if : Bool → List ℕ
space_if b = if b then [] else 32 ∷ []

behind : Ending → List Lexeme → List ℕ
behind e [] = []
behind e (x ∷ xs) = (space_if (follows e x) ++ written x) ++ behind (ending_of x) xs

text-puts : (w : Written) (xs : List Lexeme) → (puts w xs).text ≡ w.text ++ behind w.ending xs
unfolding puts put behind
text-puts w [] = sym (append-nil w.text)
text-puts w (x ∷ xs) = text-puts (put w x) xs ∙ append_assoc w.text _ _

behind-spaced : (x : Lexeme) (xs : List Lexeme) → written x ++ behind (ending_of x) xs ≡ spaced (x ∷ xs)
unfolding behind
behind-spaced x [] = append-nil (written x)
behind-spaced x (y ∷ ys) =
    ap (λ b. written x ++ ((space_if b ++ written y) ++ behind (ending_of y) ys)) (follows_lexeme x y)
    ∙ ap (λ bytes. written x ++ bytes) (append_assoc (gap x y) (written y) _)
    ∙ ap (λ bytes. written x ++ (gap x y ++ bytes)) (behind-spaced y ys)

open-spaced : (xs : List Lexeme) → behind ending.Open xs ≡ spaced xs
unfolding behind
open-spaced [] = refl
open-spaced (x ∷ xs) = ap (λ b. (space_if b ++ written x) ++ behind (ending_of x) xs) (follows_open x) ∙ behind-spaced x xs

behind-semicolon : (e : Ending) (xs : List Lexeme) → behind e (xs ++ semicolon ∷ []) ≡ behind e xs ++ 59 ∷ []
unfolding behind
behind-semicolon e [] = ap (λ b. (space_if b ++ 59 ∷ []) ++ []) (follows_semicolon e)
behind-semicolon e (x ∷ xs) =
    ap (λ bytes. (space_if (follows e x) ++ written x) ++ bytes) (behind-semicolon (ending_of x) xs) ∙ sym (append_assoc (space_if (follows e x) ++ written x) _ _)

-- ---- statements

pub written-spaced : (text : List ℕ) (lexemes : List Lexeme) → (puts (whole text) lexemes).text ≡ text ++ spaced lexemes
written-spaced text lexemes = text-puts (whole text) lexemes ∙ ap (λ bytes. text ++ bytes) (open-spaced lexemes)

pub ended-line : (text : List ℕ) (statement : List Lexeme) → ended (puts (whole text) statement) ≡ whole (text ++ line statement)
unfolding ended
ended-line text statement = ap whole (
    ap (λ bytes. bytes ++ 59 ∷ 10 ∷ []) (text-puts (whole text) statement)
    ∙ append_assoc text (behind ending.Open statement) (59 ∷ 10 ∷ [])
    ∙ ap (λ bytes. text ++ bytes) (
    sym (append_assoc (behind ending.Open statement) (59 ∷ []) (10 ∷ []))
    ∙ ap (λ bytes. bytes ++ 10 ∷ []) (sym (behind-semicolon ending.Open statement) ∙ open-spaced (statement ++ semicolon ∷ []))
    )
    )

pub lines-layout : (text : List ℕ) (statements : List (List Lexeme)) → lines (whole text) statements ≡ whole (text ++ layout statements)
unfolding lines layout
lines-layout text [] = ap whole (sym (append-nil text))
lines-layout text (statement ∷ later) =
    ap (λ w. lines w later) (ended-line text statement) ∙ lines-layout (text ++ line statement) later ∙ ap whole (append_assoc text (line statement) (layout later))

-- ---- what one writes after the other

pub puts-more : (w : Written) (x : Lexeme) (xs : List Lexeme) → puts w (x ∷ xs) ≡ puts (put w x) xs
unfolding puts
puts-more w x xs = refl

pub puts-none : (w : Written) → puts w [] ≡ w
unfolding puts
puts-none w = refl

pub puts-append : (w : Written) (xs ys : List Lexeme) → puts w (xs ++ ys) ≡ puts (puts w xs) ys
unfolding puts
puts-append w [] ys = refl
puts-append w (x ∷ xs) ys = puts-append (put w x) xs ys

pub lines-more : (w : Written) (statement : List Lexeme) (later : List (List Lexeme)) → lines w (statement ∷ later) ≡ lines (ended (puts w statement)) later
unfolding lines
lines-more w statement later = refl

pub lines-none : (w : Written) → lines w [] ≡ w
unfolding lines
lines-none w = refl

pub lines-append : (w : Written) (early later : List (List Lexeme)) → lines w (early ++ later) ≡ lines (lines w early) later
unfolding lines
lines-append w [] later = refl
lines-append w (statement ∷ early) later = lines-append (ended (puts w statement)) early later

pub ruleset writing = (puts-more, puts-none, puts-append, lines-more, lines-none, lines-append)
