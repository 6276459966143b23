-- How the values, the ranges and the conditions of the rule language are written.
use Rattle.std.specs.Prelude.{List, [], ◌∷◌, ◌++◌, codes}
use Rattle.star_model.specs.ValueCases.{WithOrder, WithSite, WithTemp, WithPath, Tables, Inside, Crossing, Between, Equalities, Indexable, Columns, Keys, Home, Union, Minus, Meet}
use Rattle.star_model.specs.ConditionCases as condition
use Rattle.star_model.specs.declared.rules.ValueExpr.{ValueExpr}
use Rattle.star_model.specs.declared.rules.ValueExpr.TheVariants as plain
use Rattle.star_model.specs.declared.rules.Condition.{Condition}
use Rattle.star_model.specs.declared.rules.Condition.TheVariants as plain_condition
use Rattle.star_model.specs.declared.rules.Range.{Range}
use Rattle.star_model.specs.declared.rules.Range.TheVariants as range
use Rattle.spelling.specs.Lexemes.{call, Lexeme, Word, left_square, right_square}

-- ---- values

abbrev pub in_squares : List Lexeme → List Lexeme
in_squares inside = left_square ∷ (inside ++ right_square ∷ [])

unfoldable pub value_lexemes : ValueExpr → List Lexeme
value_lexemes (plain.Variable name place) = Word name ∷ []
value_lexemes (WithOrder t v) = value_lexemes t ++ in_squares (Word (codes "order") ∷ value_lexemes v)
value_lexemes (WithSite t v) = value_lexemes t ++ in_squares (Word (codes "site") ∷ value_lexemes v)
value_lexemes (WithPath t v) = value_lexemes t ++ in_squares (Word (codes "path") ∷ value_lexemes v)
value_lexemes (WithTemp t) = value_lexemes t ++ in_squares (Word (codes "temp") ∷ [])
value_lexemes plain.All = Word (codes "all") ∷ []
value_lexemes plain.NoPreds = Word (codes "none") ∷ []
value_lexemes plain.NoCols = Word (codes "nocols") ∷ []
value_lexemes plain.OrderBy = Word (codes "orderby") ∷ []
value_lexemes plain.QuerySite = Word (codes "querysite") ∷ []
value_lexemes (Tables v) = call (codes "tables") (value_lexemes v ∷ [])
value_lexemes (Inside v) = call (codes "inside") (value_lexemes v ∷ [])
value_lexemes (Crossing v) = call (codes "crossing") (value_lexemes v ∷ [])
value_lexemes (Equalities v) = call (codes "equalities") (value_lexemes v ∷ [])
value_lexemes (Home v) = call (codes "home") (value_lexemes v ∷ [])
value_lexemes (Between v w) = call (codes "between") (value_lexemes v ∷ value_lexemes w ∷ [])
value_lexemes (Columns v w) = call (codes "columns") (value_lexemes v ∷ value_lexemes w ∷ [])
value_lexemes (Keys v w) = call (codes "keys") (value_lexemes v ∷ value_lexemes w ∷ [])
value_lexemes (Union v w) = call (codes "union") (value_lexemes v ∷ value_lexemes w ∷ [])
value_lexemes (Minus v w) = call (codes "minus") (value_lexemes v ∷ value_lexemes w ∷ [])
value_lexemes (Meet v w) = call (codes "meet") (value_lexemes v ∷ value_lexemes w ∷ [])
value_lexemes (Indexable t x v) = call (codes "indexable") (value_lexemes t ∷ value_lexemes x ∷ value_lexemes v ∷ [])

-- ---- ranges

abbrev pub range_lexemes : Range → List Lexeme
range_lexemes (range.Indexes t) = call (codes "indexes") (value_lexemes t ∷ [])
range_lexemes range.Sites = Word (codes "sites") ∷ []
range_lexemes (range.Members v) = call (codes "members") (value_lexemes v ∷ [])
range_lexemes (range.Each v) = call (codes "each") (value_lexemes v ∷ [])

-- ---- conditions

unfoldable pub condition_lexemes : Condition → List Lexeme
condition_lexemes (plain_condition.Empty v) = call (codes "empty") (value_lexemes v ∷ [])
condition_lexemes (plain_condition.Single v) = call (codes "single") (value_lexemes v ∷ [])
condition_lexemes (plain_condition.Same v w) = call (codes "same") (value_lexemes v ∷ value_lexemes w ∷ [])
condition_lexemes (plain_condition.Within v w) = call (codes "within") (value_lexemes v ∷ value_lexemes w ∷ [])
condition_lexemes (plain_condition.Begins v w) = call (codes "begins") (value_lexemes v ∷ value_lexemes w ∷ [])
condition_lexemes (condition.Not c) = call (codes "not") (condition_lexemes c ∷ [])
condition_lexemes (condition.And c d) = call (codes "and") (condition_lexemes c ∷ condition_lexemes d ∷ [])
condition_lexemes (condition.Or c d) = call (codes "or") (condition_lexemes c ∷ condition_lexemes d ∷ [])
