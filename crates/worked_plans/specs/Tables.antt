-- Records of tables with the rows that they hold, and choices of rows.
use Rattle.std.specs.Prelude.{◌≡◌, ℕ, Bool, List, [], ◌∷◌, ◌++◌, map, Some, None, codes, pos, neg_ℤ}
use Rattle.star_model.specs.Data.{Record, table_rows}
use Rattle.star_model.specs.Answers.{Data, Assignment, makes_true, is_below, comparison_holds}
use Rattle.star_model.specs.Predicates.{preds_in}
use Rattle.star_model.specs.WellFormed.{is_name, is_there}
use Rattle.star_model.specs.declared.catalogue.Value.{Value}
use Rattle.star_model.specs.declared.catalogue.Value.TheVariants as constant
use Rattle.star_model.specs.declared.columns.Col.{Col}
use Rattle.star_model.specs.declared.query.Cmp.TheVariants as cmp
use Rattle.worked_plans.specs.Catalogues as catalogue
use Rattle.worked_plans.specs.Queries as query

abbrev pub integer : ℕ → Value
integer n = constant.Int (pos n)

abbrev pub negative : ℕ → Value
negative n = constant.Int (neg_ℤ (pos n))

abbrev pub text : List ℕ → Value
text bytes = constant.Text bytes

-- ---- records of the table t, which has a text k and then an integer n

abbrev pub mark : List ℕ
mark = 239 ∷ 187 ∷ 191 ∷ []

-- the header n, x, k behind a byte order mark, as some tools write it
abbrev pub marked : Record
marked = (mark ++ codes "n") ∷ codes "x" ∷ codes "k" ∷ []

abbrev pub header : Record
header = codes "n" ∷ codes "k" ∷ []

abbrev pub Holds : List Record → List (List Value) → Type 0
Holds records rows = table_rows catalogue.named 0 records ≡ Some rows

abbrev pub HoldsNothing : List Record → Type 0
HoldsNothing records = table_rows catalogue.named 0 records ≡ None

-- the integer that a field holds, by the one row of the table
abbrev pub FieldHolds : List ℕ → Value → Type 0
FieldHolds field value = Holds (header ∷ (field ∷ codes "Ann" ∷ []) ∷ []) ((text (codes "Ann") ∷ value ∷ []) ∷ [])

abbrev pub FieldHoldsNothing : List ℕ → Type 0
FieldHoldsNothing field = HoldsNothing (header ∷ (field ∷ codes "Ann" ∷ []) ∷ [])

-- ---- choices of rows

-- the table of numbers.catalogue, with the rows 1, 1 and 2
abbrev pub three_rows : Data
three_rows = ((integer 1 ∷ []) ∷ (integer 1 ∷ []) ∷ (integer 2 ∷ []) ∷ []) ∷ []

-- the pair of these rows of it
abbrev pub pair : ℕ → ℕ → Assignment
pair x y = (0, x) ∷ (1, y) ∷ []

-- whether the pairs of rows make the join's predicate true
abbrev pub PairsAre : List (ℕ × ℕ × Bool) → Type 0
PairsAre rows =
    map (λ row. map (makes_true query.pairs three_rows (pair row.0 row.1)) (preds_in query.pairs 1)) rows ≡ map (λ row. row.2 ∷ []) rows

-- whether the first of each pair of values is below the second
abbrev pub AreBelowAs : List (Value × Value × Bool) → Type 0
AreBelowAs rows = map (λ row. is_below row.0 row.1) rows ≡ map (λ row. row.2) rows

-- how = <> < <= > >= compare two values, in this order
abbrev pub CompareAs : Value → Value → List Bool → Type 0
CompareAs v w answers = map (λ c. comparison_holds c v w) (cmp.Eq ∷ cmp.Ne ∷ cmp.Lt ∷ cmp.Le ∷ cmp.Gt ∷ cmp.Ge ∷ []) ≡ answers

-- ---- what is well formed

abbrev pub AreNames : List (List ℕ × Bool) → Type 0
AreNames rows = map (λ row. is_name row.0) rows ≡ map (λ row. row.1) rows

abbrev pub AreColumns : List (Col × Bool) → Type 0
AreColumns rows = map (λ row. is_there query.cities row.0) rows ≡ map (λ row. row.1) rows
