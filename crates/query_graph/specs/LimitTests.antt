-- The tests by which a statement is found to go beyond a limit.
use Rattle.std.specs.Prelude.{ℕ, Bool, false, ◌||◌, nat_lt, List, length, Option, Some, None, if◌then◌else◌}
use Rattle.std.specs.List.{list_any}
use Rattle.star_model.specs.Limits.{greatest_integer, least_integer_size, most_in_order, most_name_bytes, most_predicates, most_quantifiers, most_selected}
use Rattle.star_model.specs.declared.faults.LimitKind.{LimitKind}
use Rattle.star_model.specs.declared.faults.LimitKind.TheVariants as limit
use Rattle.query_graph.specs.declared.words.ColumnWords.{ColumnWords}
use Rattle.query_graph.specs.declared.words.ItemWords.{ItemWords}
use Rattle.query_graph.specs.declared.words.ConstantWords.{ConstantWords}
use Rattle.query_graph.specs.declared.words.ConstantWords.TheVariants as constant
use Rattle.query_graph.specs.declared.words.SideWords.{SideWords}
use Rattle.query_graph.specs.declared.words.SideWords.TheVariants as side
use Rattle.query_graph.specs.declared.words.ComparisonWords.{ComparisonWords}
use Rattle.query_graph.specs.declared.words.QueryWords.{QueryWords}

-- ---- constants

abbrev pub is_great : ConstantWords → Bool
is_great (constant.Whole n) = nat_lt greatest_integer n
is_great (constant.Negative n) = nat_lt least_integer_size n
is_great (constant.Quoted bytes) = false

abbrev pub is_great_side : SideWords → Bool
is_great_side (side.Column c) = false
is_great_side (side.Constant k) = is_great k

-- ---- names

abbrev pub is_long : List ℕ → Bool
is_long name = nat_lt most_name_bytes (length name)

abbrev pub is_long_if_any : Option (List ℕ) → Bool
is_long_if_any None = false
is_long_if_any (Some name) = is_long name

abbrev pub has_long_column : ColumnWords → Bool
has_long_column c = is_long c.quantifier || is_long c.column

abbrev pub has_long_item : ItemWords → Bool
has_long_item i = is_long i.table || is_long_if_any i.name

abbrev pub has_long_side : SideWords → Bool
has_long_side (side.Column c) = has_long_column c
has_long_side (side.Constant k) = false

abbrev pub has_long_comparison : ComparisonWords → Bool
has_long_comparison p = has_long_column p.left || has_long_side p.right

abbrev pub has_long_name : QueryWords → Bool
has_long_name q =
    list_any has_long_column q.select || list_any has_long_item q.items || list_any has_long_comparison q.comparisons
    || list_any has_long_column q.order || is_long_if_any q.site

-- ---- the first limit

abbrev pub first_count : QueryWords → Option LimitKind
first_count q =
    if nat_lt most_quantifiers (length q.items) then Some limit.Quantifiers
    else if nat_lt most_predicates (length q.comparisons) then Some limit.Predicates
    else if nat_lt most_selected (length q.select) then Some limit.Select
    else if nat_lt most_in_order (length q.order) then Some limit.OrderBy
    else None

abbrev pub first_limit : QueryWords → Option LimitKind
first_limit q =
    if list_any (λ p. is_great_side p.right) q.comparisons then Some limit.Number
    else if has_long_name q then Some limit.Name
    else first_count q
