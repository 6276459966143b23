-- The statements of a list of tokens.
use Rattle.std.specs.Prelude.{true, false, ℕ, Bool, not, ◌==◌, List, [], ◌∷◌, length, take_while, if◌then◌else◌}
use Rattle.sb_text.specs.declared.token.Token.{Token}
use Rattle.sb_text.specs.declared.statement.Statement.{Statement}
use Rattle.sb_text.specs.declared.statement.StatementIter.{StatementIter}

-- the symbol `;`
abbrev pub is_end : Token → Bool
is_end t = t.first == 59

-- all tokens but `;`
abbrev pub is_inside : Token → Bool
is_inside t = not (is_end t)

-- a statement: its tokens, and whether a `;` ends it
abbrev pub Part : Type 0
Part = List Token × Bool

abbrev pub tokens_of : Part → List Token
tokens_of part = part.0

abbrev pub put_first : Token → List Part → List Part
put_first t [] = (t ∷ [], false) ∷ []
put_first t (part ∷ rest) = (t ∷ part.0, part.1) ∷ rest

-- the tokens before each `;`, and then those behind the last one
abbrev pub parts : List Token → List Part
parts [] = []
parts (t ∷ ts) = if is_end t then ([], true) ∷ parts ts else put_first t (parts ts)

-- how many tokens stand before the first `;`
abbrev pub part_len : List Token → ℕ
part_len ts = length (take_while is_inside ts)

abbrev pub part_of : Statement → Part
part_of s = (s.tokens.now, s.ended)

-- the statements that are left
abbrev pub parts_of_iter : StatementIter → List Part
parts_of_iter s = parts s.rest.now
