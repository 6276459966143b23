-- The canonical form of an order: lists of columns that sort alike, where some predicates hold, have one form.
use Rattle.std.specs.Prelude.{ℕ, Bool, not, ◌&&◌, ◌||◌, nat_eq, nat_lt, List, [], ◌∷◌, ◌++◌, map, fold, filter, Option, Some, None, if◌then◌else◌, ◌⊎◌, Contains}
use Rattle.std.specs.List.{filter_map}
use Rattle.star_model.specs.Sets.{has}
use Rattle.star_model.specs.Predicates.{preds_in}
use Rattle.star_model.specs.Vectors.{same_column}
use Rattle.star_model.specs.declared.columns.Col.{Col}
use Rattle.star_model.specs.declared.query.Query.{Query}
use Rattle.star_model.specs.declared.query.Pred.{Pred}
use Rattle.star_model.specs.declared.query.Cmp.{Cmp}
use Rattle.star_model.specs.declared.query.Cmp.TheVariants as cmp
use Rattle.star_model.specs.declared.query.Operand.{Operand}
use Rattle.star_model.specs.declared.query.Operand.TheVariants as operand

-- two columns that are equal where a predicate holds
abbrev pub ColPair : Type 0
ColPair = Col × Col

-- the two columns of a comparison that is an equality of columns of the set's quantifiers
abbrev pub equal_columns : ℕ → Col → Cmp → Operand → Option ColPair
equal_columns s c cmp.Eq (operand.Column d) = if has s c.quant.0 && has s d.quant.0 then Some (c, d) else None
equal_columns s c _ _ = None

abbrev pub equality_within : ℕ → Pred → Option ColPair
equality_within s p = equal_columns s p.left p.cmp p.right

-- the equalities among the predicates, of columns of the set's quantifiers
abbrev pub equalities_within : Query → ℕ → ℕ → List ColPair
equalities_within q preds s = filter_map (equality_within s) (preds_in q preds)

-- by the quantifier's number, and then by the column's
abbrev pub is_lower : Col → Col → Bool
is_lower c d = nat_lt c.quant.0 d.quant.0 || (nat_eq c.quant.0 d.quant.0 && nat_lt c.column d.column)

abbrev pub lower : Col → Col → Col
lower c d = if is_lower d c then d else c

-- the lower of the two, for each of them
abbrev pub merged : ColPair → Col → Col
merged pair x = if same_column x pair.0 || same_column x pair.1 then lower pair.0 pair.1 else x

-- the column after merges, one after another
abbrev pub after_merges : List ColPair → Col → Col
after_merges made x = fold (λ y pair. merged pair y) x made

-- one merge more: of what the pair's columns are after those made before
abbrev pub with_merge : List ColPair → ColPair → List ColPair
with_merge made pair = made ++ (after_merges made pair.0, after_merges made pair.1) ∷ []

abbrev pub merges : List ColPair → List ColPair
merges pairs = fold with_merge [] pairs

-- the least column that is equal to it
unfoldable pub least_equal : List ColPair → Col → Col
least_equal pairs x = after_merges (merges pairs) x

-- the list without each column that stands earlier in it
abbrev pub distinct : List Col → List Col
distinct [] = []
distinct (c ∷ cs) = c ∷ filter (λ d. not (same_column c d)) (distinct cs)

abbrev pub canon_by : List ColPair → List Col → List Col
canon_by pairs cols = distinct (map (least_equal pairs) cols)

-- the list with the least equal column in place of each, without repeats
unfoldable pub canon : Query → ℕ → ℕ → List Col → List Col
canon q preds s cols = canon_by (equalities_within q preds s) cols

-- one of the equalities, either way round
abbrev pub IsLink : List ColPair → Col → Col → Type 0
IsLink pairs x y = Contains pairs (x, y) ⊎ Contains pairs (y, x)

module _ (pairs : List ColPair) where
  -- columns that are equal where the equalities hold: they are one, or a chain of equalities joins them
  pub data AreEqual : Col → Col → Type 0 where
    same : (x : Col) → AreEqual x x
    chained : (x y z : Col) → AreEqual x y → IsLink pairs y z → AreEqual x z
