-- A text has one list of statements, and what no two items begin alike is told apart in series.
use Rattle.std.proofs.Common.{◌≡◌, ℕ, true, None, List, [], ◌∷◌, map, refl, sym, ap, ◌∙◌}
use Rattle.spelling.specs.Lexemes.{Lexeme, IsStatements, MaybeEnded, ended, statements_in, lexemes_of}
use Rattle.sb_text.specs.declared.token.Token.{Token}
use Rattle.sb_text.specs.Tokens.{Lexed, lexed}
use Rattle.sb_text.specs.Statements.{Part, parts}
use Rattle.spelling.specs.SpelledSeries.{same_maps}

un_ended : (s t : List Lexeme) → ended s ≡ ended t → s ≡ t
un_ended s t e = ap (λ (m : MaybeEnded). m.0) e

pub one_list : (text : List ℕ) (a b : List (List Lexeme)) → IsStatements text a → IsStatements text b → a ≡ b
one_list text a b p q = same_maps ended un_ended a b (sym p.are ∙ q.are)

-- ---- from tokens

abbrev pub all_ended : List (List Token) → List Part
all_ended list = map (λ ts. (ts, true)) list

said_each : (text : List ℕ) (list : List (List Token)) → map (λ (part : Part). (lexemes_of text part.0, part.1)) (all_ended list) ≡ map ended (map (lexemes_of text) list)
said_each text [] = refl
said_each text (ts ∷ list) = ap (λ l. ended (lexemes_of text ts) ∷ l) (said_each text list)

-- the statements of a text, from its tokens
pub statements_of_tokens : (text : List ℕ) (tokens : List Token) (list : List (List Token)) → lexed text ≡ (tokens, None) → parts tokens ≡ all_ended list → IsStatements text (map (lexemes_of text) list)
unfolding statements_in
statements_of_tokens text tokens list read cut = record {
  all_tokens = ap (λ (l : Lexed). l.1) read;
  are = ap (λ (l : Lexed). map (λ (part : Part). (lexemes_of text part.0, part.1)) (parts l.0)) read ∙ ap (λ (l : List Part). map (λ (part : Part). (lexemes_of text part.0, part.1)) l) cut ∙ said_each text list;
}
