-- What the tokens of a text say: its lexemes, and its statements as lists of lexemes.
use Rattle.std.specs.Prelude.{◌≡◌, ℕ, Bool, true, ◌==◌, if◌then◌else◌, List, [], ◌∷◌, ◌++◌, map, drop, None, codes}
use Rattle.std.specs.Str.Parse.{digits_value}
use Rattle.sb_text.specs.declared.token.Token.{Token}
use Rattle.sb_text.specs.declared.token.TokenKind.{TokenKind}
use Rattle.sb_text.specs.declared.token.TokenKind.TheVariants as kind
use Rattle.sb_text.specs.Tokens.{lexed, text_of}
use Rattle.sb_text.specs.Statements.{parts}

-- What a token says. A number is its value, so leading zeros make no difference; a text is what stands
-- between its quotes, with each doubled quote as one.
pub data Lexeme : Type 0 where
  Word : List ℕ → Lexeme
  Number : ℕ → Lexeme
  Text : List ℕ → Lexeme
  Symbol : List ℕ → Lexeme

-- what the bytes behind the first quote of a text say; the last of them is the quote that closes it
abbrev pub undoubled : List ℕ → List ℕ
undoubled [] = []
undoubled (b ∷ []) = []
undoubled (b ∷ c ∷ rest) = if b == 39 then 39 ∷ undoubled rest else b ∷ undoubled (c ∷ rest)

-- what a token of this kind and these bytes says
abbrev pub said : TokenKind → List ℕ → Lexeme
said kind.Word bytes = Word bytes
said kind.Number bytes = Number (digits_value 10 bytes)
said kind.Text bytes = Text (undoubled (drop 1 bytes))
said kind.Symbol bytes = Symbol bytes

abbrev pub lexeme_of : List ℕ → Token → Lexeme
lexeme_of source t = said t.kind (text_of source t)

abbrev pub lexemes_of : List ℕ → List Token → List Lexeme
lexemes_of source tokens = map (lexeme_of source) tokens

-- a statement and whether a `;` ends it
abbrev pub MaybeEnded : Type 0
MaybeEnded = List Lexeme × Bool

-- what stands before each `;`, and then what stands behind the last one
unfoldable pub statements_in : List ℕ → List MaybeEnded
statements_in text = map (λ part. (lexemes_of text part.0, part.1)) (parts (lexed text).0)

abbrev pub ended : List Lexeme → MaybeEnded
ended statement = (statement, true)

-- All bytes of the text are tokens and what stands between them, and these are its statements, each ended by `;`. How deep their
-- brackets nest makes no difference.
pub record IsStatements (text : List ℕ) (statements : List (List Lexeme)) : Type 0 where
  pub all_tokens : (lexed text).1 ≡ None
  pub are : statements_in text ≡ map ended statements

-- ---- the symbols

abbrev pub left_bracket : Lexeme
left_bracket = Symbol (codes "(")

abbrev pub right_bracket : Lexeme
right_bracket = Symbol (codes ")")

abbrev pub left_square : Lexeme
left_square = Symbol (codes "[")

abbrev pub right_square : Lexeme
right_square = Symbol (codes "]")

abbrev pub left_brace : Lexeme
left_brace = Symbol (codes "{")

abbrev pub right_brace : Lexeme
right_brace = Symbol (codes "}")

abbrev pub comma : Lexeme
comma = Symbol (codes ",")

abbrev pub semicolon : Lexeme
semicolon = Symbol (codes ";")

abbrev pub dot : Lexeme
dot = Symbol (codes ".")

abbrev pub bar : Lexeme
bar = Symbol (codes "|")

abbrev pub equals : Lexeme
equals = Symbol (codes "=")

-- ---- parts of statements

-- the items one after the other, with this lexeme between two
abbrev pub joined_by : Lexeme → List (List Lexeme) → List Lexeme
joined_by between [] = []
joined_by between (item ∷ []) = item
joined_by between (item ∷ next ∷ items) = item ++ between ∷ joined_by between (next ∷ items)

abbrev pub bracketed : List Lexeme → List Lexeme
bracketed inside = left_bracket ∷ (inside ++ right_bracket ∷ [])

-- a word and its arguments
abbrev pub call : List ℕ → List (List Lexeme) → List Lexeme
call word arguments = Word word ∷ bracketed (joined_by comma arguments)
