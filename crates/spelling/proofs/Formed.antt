-- The statements of any text are of lexemes that can be laid out.
use Rattle.std.proofs.Common.{◌≡◌, ◌-◌, ◌≤◌, ◌<◌, ◌^◌, ℕ, true, false, List, [], ◌∷◌, length, take, drop, map, Some, refl, ap, sym, ◌∙◌, arith, suc, zero, subst}
use Rattle.std.specs.Prelude.{codes}
use Rattle.std.specs.List.{All, AllPass, slice_get}
use Rattle.std.specs.Str.Parse.{digits_value}
use Rattle.std.proofs.lemmas.Int.Digits.{digits_value-lt}
use Rattle.std.proofs.Math.Nat.{pow-le-pow_right}
use Rattle.std.proofs.lemmas.List.Elements.{All-head, All-tail}
use Rattle.sb_text.specs.declared.token.Token.{Token}
use Rattle.sb_text.specs.declared.token.TokenKind.{TokenKind}
use Rattle.sb_text.specs.declared.token.TokenKind.TheVariants as kind
use Rattle.sb_text.specs.Forms.{IsNumber, IsToken}
use Rattle.sb_text.specs.Tokens.{lexed, text_of}
use Rattle.sb_text.specs.Reading.{IsTokenOf}
use Rattle.sb_text.specs.Statements.{Part, tokens_of, parts, is_inside}
use Rattle.sb_text.proofs.Laws.{tokens-parts, inside-parts}
use Rattle.spelling.specs.Lexemes.{Lexeme, said, lexeme_of, lexemes_of, MaybeEnded, ended, statements_in, IsStatements}
use Rattle.star_model.specs.Every.{Every}
use Rattle.spelling.specs.Layout.{layout, IsLexeme}
use Rattle.spelling.proofs.TokenForms.{all_digits}
use Rattle.spelling.proofs.LayoutLaws.{statements_of_layout}

few_digits : (k : ℕ) → k ≤ 19 → 10 ^ k ≤ 10 ^ 19
few_digits k few = pow-le-pow_right (omega arith) few

number_below : (bytes after : List ℕ) → IsNumber bytes after → digits_value 10 bytes < 10 ^ 19
number_below bytes after is = omega (arith, digits_value-lt 10 bytes (all_digits bytes is.digits), few_digits (length bytes) is.few)

formed_said : (k : TokenKind) (bytes after : List ℕ) → IsToken k bytes after → (bytes ≡ codes ";" → ⊥) → IsLexeme (said k bytes)
formed_said kind.Word bytes after is other = is
formed_said kind.Number bytes after is other = number_below bytes after is
formed_said kind.Text bytes after is other = tt
formed_said kind.Symbol bytes after is other = (is, other)

first_of : (source : List ℕ) (at n b : ℕ) (rest : List ℕ) → take n (drop at source) ≡ b ∷ rest → slice_get source at ≡ Some b
first_of [] zero zero b rest is = cc
first_of [] zero (suc n) b rest is = cc
first_of [] (suc at) zero b rest is = cc
first_of [] (suc at) (suc n) b rest is = cc
first_of (c ∷ source) zero zero b rest is = cc
first_of (c ∷ source) zero (suc n) b rest is = let same : c ≡ b = cc in ap (λ x. Some x) same
first_of (c ∷ source) (suc at) n b rest is = first_of source at n b rest is

no_semicolon : (text : List ℕ) (t : Token) → IsTokenOf text t → is_inside t ≡ true → text_of text t ≡ codes ";" → ⊥
no_semicolon text t is inside semicolon =
    let first = first_of text t.start (t.«end» - t.start) 59 [] semicolon in
    let same : t.first ≡ 59 = let both : Some t.first ≡ Some 59 = sym is.first ∙ first in cc in
    let no : is_inside t ≡ false = rw same refl in
    cc

formed_lexeme : (text : List ℕ) (t : Token) → IsTokenOf text t → is_inside t ≡ true → IsLexeme (lexeme_of text t)
formed_lexeme text t is inside =
    formed_said t.kind (text_of text t) (drop (t.«end» - t.start) (drop t.start text)) is.longest.form (no_semicolon text t is inside)

formed_lexemes : (text : List ℕ) (ts : List Token) → All (IsTokenOf text) ts → AllPass is_inside ts → Every IsLexeme (lexemes_of text ts)
formed_lexemes text [] all inside = tt
formed_lexemes text (t ∷ ts) all inside = (
  formed_lexeme text t (All-head (IsTokenOf text) t ts all) (All-head (λ x. is_inside x ≡ true) t ts inside),
  formed_lexemes text ts (All-tail (IsTokenOf text) t ts all) (All-tail (λ x. is_inside x ≡ true) t ts inside),
)

abbrev OfText : List ℕ → Part → Type 0
OfText text part = All (IsTokenOf text) (tokens_of part)

abbrev Inside : Part → Type 0
Inside part = AllPass is_inside (tokens_of part)

abbrev said_of : List ℕ → Part → MaybeEnded
said_of text part = (lexemes_of text part.0, part.1)

formed_parts : (text : List ℕ) (ps : List Part) (statements : List (List Lexeme)) → map (said_of text) ps ≡ map ended statements → All (OfText text) ps → All Inside ps
    → Every (Every IsLexeme) statements
formed_parts text [] [] is all inside = tt
formed_parts text [] (s ∷ statements) is all inside = cc
formed_parts text (p ∷ ps) [] is all inside = cc
formed_parts text (p ∷ ps) (s ∷ statements) is all inside =
    let first : said_of text p ≡ ended s = cc in
    let later : map (said_of text) ps ≡ map ended statements = cc in
    let lexemes : lexemes_of text p.0 ≡ s = ap (λ (m : MaybeEnded). m.0) first in (
      subst (λ (l : List Lexeme). Every IsLexeme l) lexemes (formed_lexemes text p.0 (All-head (OfText text) p ps all) (All-head Inside p ps inside)),
      formed_parts text ps statements later (All-tail (OfText text) p ps all) (All-tail Inside p ps inside),
    )

pub formed_statements : (text : List ℕ) (statements : List (List Lexeme)) → IsStatements text statements → Every (Every IsLexeme) statements
unfolding statements_in
formed_statements text statements is = formed_parts text (parts (lexed text).0) statements is.are (tokens-parts text) (inside-parts (lexed text).0)

-- a text laid out says the same
pub layout_again : (text : List ℕ) (statements : List (List Lexeme)) → IsStatements text statements → IsStatements (layout statements) statements
layout_again text statements is = statements_of_layout statements (formed_statements text statements is)
