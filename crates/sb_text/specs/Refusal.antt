-- Why a text is refused.
use Rattle.std.specs.Prelude.{◌≡◌, ◌≤◌, ℕ, All, List, length, Option, None, Some}
use Rattle.sb_text.specs.Limits.{deepest_brackets, most_tokens}
use Rattle.sb_text.specs.declared.token.Token.{Token}
use Rattle.sb_text.specs.declared.token.TextFault.{TextFault}
use Rattle.sb_text.specs.declared.token.TextFault.TheVariants.{Lexical, TooDeep, Memory}
use Rattle.sb_text.specs.Tokens.{lexed}
use Rattle.sb_text.specs.Statements.{Part, tokens_of, parts}
use Rattle.sb_text.specs.Depth.{greatest_depth, first_too_deep}

abbrev pub first_fault : Option ℕ → Option ℕ → Option TextFault
first_fault (Some offset) deep = Some (Lexical offset)
first_fault None (Some statement) = Some (TooDeep statement)
first_fault None None = None

-- what the reading of tokens alone refuses
abbrev pub IsLexical : List ℕ → TextFault → Type 0
IsLexical source (Lexical offset) = (lexed source).1 ≡ Some offset
IsLexical source (TooDeep statement) = ⊥
IsLexical source Memory = Unit {0}

-- the place at which no token begins, else the first statement that is too deep
abbrev pub fault_of : List ℕ → Option TextFault
fault_of source = first_fault (lexed source).1 (first_too_deep (parts (lexed source).0))

-- all bytes are tokens, these, and no statement is too deep
pub record AreTokens (source : List ℕ) (tokens : List Token) : Type 0 where
  pub lexed : lexed source ≡ (tokens, None)
  pub accepted : fault_of source ≡ None

-- want of memory may come at any text
abbrev pub IsFault : List ℕ → TextFault → Type 0
IsFault source Memory = Unit {0}
IsFault source fault = fault_of source ≡ Some fault

-- all bytes are tokens, and each statement has at most 4,096 of them and brackets at most 32 deep
pub record IsAccepted (source : List ℕ) : Type 0 where
  pub whole : (lexed source).1 ≡ None
  pub short : All (λ (part : Part). length (tokens_of part) ≤ most_tokens) (parts (lexed source).0)
  pub shallow : All (λ (part : Part). greatest_depth 0 (tokens_of part) ≤ deepest_brackets) (parts (lexed source).0)
