-- The laws that other crates may cite. Each is the clause of a function of the module `theorems`.
use Rattle.std.proofs.Common.{◌≡◌, ◌≤◌, ◌↔◌, ℕ, List, ◌++◌, length, None, Some, arith}
use Rattle.std.specs.List.{All}
use Rattle.sb_text.specs.declared.token.TokenKind.{TokenKind}
use Rattle.sb_text.specs.declared.token.TokenKind.TheVariants.{Word, Number, Text, Symbol}
use Rattle.sb_text.specs.Bytes.{is_in_word, is_quote}
use Rattle.sb_text.specs.Forms.{IsWord, IsNumber, IsSymbol, NotFirst, NoDouble, quoted}
use Rattle.sb_text.specs.Front.{token_at, IsLongest, NoneBegins}
use Rattle.sb_text.specs.Tokens.{lexed}
use Rattle.sb_text.specs.Reading.{IsTokenOf, AreInOrder}
use Rattle.sb_text.specs.Statements.{Part, tokens_of, parts}
use Rattle.sb_text.specs.Refusal.{fault_of, IsAccepted}
use Rattle.sb_text.proofs.Longest.{longest, longest-token_at, none_begins, none-token_at}
use Rattle.sb_text.proofs.Ends.{word_ends, number_ends, text_ends, symbol_ends}
use Rattle.sb_text.proofs.Spans.{spans-lexed}
use Rattle.sb_text.proofs.Parts.{all-parts}
use Rattle.sb_text.proofs.Accepted.{accepted-from, accepted-to}
-- one reading of each text
pub use Rattle.sb_text.proofs.Readings.{reading, one_reading}
-- where a reading stops
pub use Rattle.sb_text.proofs.Spans.{stops-lexed}
-- statements
pub use Rattle.sb_text.proofs.Parts.{parts-ended, parts-open, flat_map-parts, inside-parts}
pub use Rattle.sb_text.proofs.Deepest.{length-parts}

-- the longest token
pub token_at-longest : (bytes : List ℕ) (kind : TokenKind) (len : ℕ) → (token_at bytes ≡ Some (kind, len)) ↔ IsLongest kind len bytes
token_at-longest bytes kind len = (longest bytes kind len, longest-token_at bytes kind len)

pub token_at-none : (bytes : List ℕ) → (token_at bytes ≡ None) ↔ NoneBegins bytes
token_at-none bytes = (none_begins bytes, none-token_at bytes)

-- where a token ends
pub longest-word : (front after : List ℕ) → IsWord front → NotFirst is_in_word after → IsLongest Word (length front) (front ++ after)
longest-word front after is none = longest (front ++ after) Word (length front) (word_ends front after is none)

pub longest-number : (front after : List ℕ) → IsNumber front after → IsLongest Number (length front) (front ++ after)
longest-number front after is = longest (front ++ after) Number (length front) (number_ends front after is)

pub longest-text : (inner after : List ℕ) → NotFirst is_quote after → IsLongest Text (length (quoted inner)) (quoted inner ++ after)
longest-text inner after none = longest (quoted inner ++ after) Text (length (quoted inner)) (text_ends inner after none)

pub longest-symbol : (front after : List ℕ) → IsSymbol front → NoDouble front after → IsLongest Symbol (length front) (front ++ after)
longest-symbol front after is none = longest (front ++ after) Symbol (length front) (symbol_ends front after is none)

-- the tokens in their text
pub tokens-lexed : (source : List ℕ) → All (IsTokenOf source) (lexed source).0
tokens-lexed source = (spans-lexed source).all

pub order-lexed : (source : List ℕ) → AreInOrder 0 (lexed source).0
order-lexed source = (spans-lexed source).order 0 (omega arith)

pub length-lexed : (source : List ℕ) → length (lexed source).0 ≤ length source
length-lexed source = omega (arith, (spans-lexed source).count)

-- the tokens of each statement
pub tokens-parts : (source : List ℕ) → All (λ (part : Part). All (IsTokenOf source) (tokens_of part)) (parts (lexed source).0)
tokens-parts source = all-parts (IsTokenOf source) (lexed source).0 (tokens-lexed source)

-- texts without a fault
pub fault_of-accepted : (source : List ℕ) → (fault_of source ≡ None) ↔ IsAccepted source
fault_of-accepted source = (accepted-from source, accepted-to source)
