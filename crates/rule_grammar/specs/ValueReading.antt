-- How the values and the ranges of the rule language are read from the front of a list of lexemes.
use Rattle.std.specs.Prelude.{◌≡◌, ℕ, zero, suc, List, [], ◌∷◌, length, Option, Some, None, codes, if◌then◌else◌}
use Rattle.star_model.specs.declared.rules.ValueExpr.{ValueExpr}
use Rattle.star_model.specs.declared.rules.ValueExpr.TheVariants as plain
use Rattle.star_model.specs.ValueCases as value
use Rattle.star_model.specs.declared.rules.Range.{Range}
use Rattle.star_model.specs.declared.rules.Range.TheVariants as range
use Rattle.rule_grammar.specs.declared.words.ValueHead.{ValueHead}
use Rattle.rule_grammar.specs.declared.words.ValueHead.TheVariants as head
use Rattle.rule_grammar.specs.declared.words.ConstantHead.{ConstantHead}
use Rattle.rule_grammar.specs.declared.words.ConstantHead.TheVariants as constant
use Rattle.rule_grammar.specs.declared.words.UnaryHead.{UnaryHead}
use Rattle.rule_grammar.specs.declared.words.UnaryHead.TheVariants as unary
use Rattle.rule_grammar.specs.declared.words.BinaryHead.{BinaryHead}
use Rattle.rule_grammar.specs.declared.words.BinaryHead.TheVariants as binary
use Rattle.rule_grammar.specs.declared.words.RequirementHead.{RequirementHead}
use Rattle.rule_grammar.specs.declared.words.RequirementHead.TheVariants as requirement
use Rattle.rule_grammar.specs.declared.words.ValuedHead.{ValuedHead}
use Rattle.rule_grammar.specs.declared.words.ValuedHead.TheVariants as valued
use Rattle.rule_grammar.specs.declared.words.RangeHead.{RangeHead}
use Rattle.rule_grammar.specs.declared.words.RangeHead.TheVariants as ranged
use Rattle.spelling.specs.Lexemes.{Lexeme}
use Rattle.spelling.specs.Names.{found_in}
use Rattle.star_model.specs.WellFormedRules.{Scope, is_reserved, place_among}
use Rattle.spelling.specs.Reading.{Reader, ◌>>=◌, ◌>>◌, pure, the_symbol, a_word}

-- ---- words

abbrev pub value_heads : List (List ℕ × ValueHead)
value_heads =
    (codes "all", head.Constant constant.All)
    ∷ (codes "none", head.Constant constant.NoPreds)
    ∷ (codes "nocols", head.Constant constant.NoCols)
    ∷ (codes "orderby", head.Constant constant.OrderBy)
    ∷ (codes "querysite", head.Constant constant.QuerySite)
    ∷ (codes "tables", head.Unary unary.Tables)
    ∷ (codes "inside", head.Unary unary.Inside)
    ∷ (codes "crossing", head.Unary unary.Crossing)
    ∷ (codes "equalities", head.Unary unary.Equalities)
    ∷ (codes "home", head.Unary unary.Home)
    ∷ (codes "between", head.Binary binary.Between)
    ∷ (codes "columns", head.Binary binary.Columns)
    ∷ (codes "keys", head.Binary binary.Keys)
    ∷ (codes "union", head.Binary binary.Union)
    ∷ (codes "minus", head.Binary binary.Minus)
    ∷ (codes "meet", head.Binary binary.Meet)
    ∷ (codes "indexable", head.Indexable) ∷ []

unfoldable pub value_head : List ℕ → ValueHead
value_head word = found_in head.Other value_heads word

abbrev pub requirement_heads : List (List ℕ × RequirementHead)
requirement_heads =
    (codes "order", requirement.Valued valued.Order) ∷ (codes "site", requirement.Valued valued.Site) ∷ (codes "path", requirement.Valued valued.Path)
    ∷ (codes "temp", requirement.Temp) ∷ []

unfoldable pub requirement_head : List ℕ → RequirementHead
requirement_head word = found_in requirement.Other requirement_heads word

abbrev pub range_heads : List (List ℕ × RangeHead)
range_heads =
    (codes "indexes", ranged.Indexes) ∷ (codes "sites", ranged.Sites) ∷ (codes "members", ranged.Members) ∷ (codes "each", ranged.Each) ∷ []

unfoldable pub range_head : List ℕ → RangeHead
range_head word = found_in ranged.Other range_heads word

-- ---- items in brackets

-- one item
unfoldable pub one_at : {A : Type 0} → Reader A → Reader A
one_at item = do
  the_symbol (codes "(")
  x ← item
  the_symbol (codes ")")
  pure x

-- the last two items, and the bracket behind them
unfoldable pub last_two_at : {A : Type 0} → Reader A → Reader (A × A)
last_two_at item = do
  x ← item
  the_symbol (codes ",")
  y ← item
  the_symbol (codes ")")
  pure (x, y)

unfoldable pub two_at : {A : Type 0} → Reader A → Reader (A × A)
two_at item = the_symbol (codes "(") >> last_two_at item

-- ---- values

abbrev pub constant_of : ConstantHead → ValueExpr
constant_of constant.All = plain.All
constant_of constant.NoPreds = plain.NoPreds
constant_of constant.NoCols = plain.NoCols
constant_of constant.OrderBy = plain.OrderBy
constant_of constant.QuerySite = plain.QuerySite

abbrev pub unary_of : UnaryHead → ValueExpr → ValueExpr
unary_of unary.Tables v = value.Tables v
unary_of unary.Inside v = value.Inside v
unary_of unary.Crossing v = value.Crossing v
unary_of unary.Equalities v = value.Equalities v
unary_of unary.Home v = value.Home v

abbrev pub binary_of : BinaryHead → ValueExpr → ValueExpr → ValueExpr
binary_of binary.Between v w = value.Between v w
binary_of binary.Columns v w = value.Columns v w
binary_of binary.Keys v w = value.Keys v w
binary_of binary.Union v w = value.Union v w
binary_of binary.Minus v w = value.Minus v w
binary_of binary.Meet v w = value.Meet v w

abbrev pub valued_of : ValuedHead → ValueExpr → ValueExpr → ValueExpr
valued_of valued.Order t v = value.WithOrder t v
valued_of valued.Site t v = value.WithSite t v
valued_of valued.Path t v = value.WithPath t v

-- `inner` reads a value inside this one
module _ (inner : Reader ValueExpr) where
  unfoldable pub indexable_at : Reader ValueExpr
  indexable_at = do
    the_symbol (codes "(")
    t ← inner
    the_symbol (codes ",")
    last ← last_two_at inner
    pure (value.Indexable t last.0 last.1)

  -- a value, and the square bracket behind it
  unfoldable pub required_at : Reader ValueExpr
  required_at = do
    v ← inner
    the_symbol (codes "]")
    pure v

  -- what stands behind the word in square brackets
  abbrev pub requiring : ValueExpr → RequirementHead → Reader ValueExpr
  requiring t (requirement.Valued r) = required_at >>= λ v. pure (valued_of r t v)
  requiring t requirement.Temp = the_symbol (codes "]") >> pure (value.WithTemp t)
  requiring t requirement.Other = λ _. None

  -- this value with the requirement that stands behind a square bracket
  unfoldable pub requirement_at : ValueExpr → Reader ValueExpr
  requirement_at t = a_word >>= λ word. requiring t (requirement_head word)

  -- goes on where a square bracket was found
  abbrev pub turn : (ValueExpr → Reader ValueExpr) → ValueExpr → List Lexeme → Option (Unit {0} × List Lexeme) → Option (ValueExpr × List Lexeme)
  turn more t lexemes None = Some (t, lexemes)
  turn more t lexemes (Some found) = (requirement_at t >>= more) found.1

  -- this value with the requirements behind it, at most so many
  unfoldable pub requirements_at : ℕ → ValueExpr → Reader ValueExpr
  requirements_at zero t = pure t
  requirements_at (suc n) t = λ lexemes. turn (requirements_at n) t lexemes (the_symbol (codes "[") lexemes)

module _ (scope : Scope) where
  -- the variable of this name
  unfoldable pub variable_at : List ℕ → Reader ValueExpr
  variable_at name lexemes = if is_reserved scope.version name then None else Some (plain.Variable name (place_among scope.names name), lexemes)

  -- `inner` reads a value inside this one
  module _ (inner : Reader ValueExpr) where
    -- what stands behind the word
    abbrev pub headed : List ℕ → ValueHead → Reader ValueExpr
    headed word (head.Constant c) = pure (constant_of c)
    headed word (head.Unary f) = one_at inner >>= λ v. pure (unary_of f v)
    headed word (head.Binary f) = two_at inner >>= λ p. pure (binary_of f p.0 p.1)
    headed word head.Indexable = indexable_at inner
    headed word head.Other = variable_at word

    -- a value without the requirements behind it
    unfoldable pub bare_at : Reader ValueExpr
    bare_at = a_word >>= λ word. headed word (value_head word)

    unfoldable pub value_by : Reader ValueExpr
    value_by = bare_at >>= λ t lexemes. requirements_at inner (length lexemes) t lexemes

  -- The number bounds how many values may be open inside one another.
  unfoldable pub value_at : ℕ → Reader ValueExpr
  value_at zero = λ _. None
  value_at (suc n) = value_by (value_at n)

  -- ---- ranges

  abbrev pub ranging : ℕ → RangeHead → Reader Range
  ranging n ranged.Indexes = one_at (value_at n) >>= λ t. pure (range.Indexes t)
  ranging n ranged.Sites = pure range.Sites
  ranging n ranged.Members = one_at (value_at n) >>= λ v. pure (range.Members v)
  ranging n ranged.Each = one_at (value_at n) >>= λ v. pure (range.Each v)
  ranging n ranged.Other = λ _. None

  -- The number bounds how many values may be open inside one another.
  unfoldable pub range_at : ℕ → Reader Range
  range_at n = a_word >>= λ word. ranging n (range_head word)

-- no square bracket stands at the front
abbrev pub NoSquare : List Lexeme → Type 0
NoSquare lexemes = the_symbol (codes "[") lexemes ≡ None
