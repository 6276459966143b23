-- Written by tools/worked_plans.
-- Values, conditions and ranges of the rule language, with what they mean.
use Rattle.std.specs.Prelude.{Bool, true, false, List, [], ◌∷◌, Some, None, codes}
use Rattle.star_model.specs.ValueCases as v
use Rattle.star_model.specs.ConditionCases as c
use Rattle.star_model.specs.declared.rules.ValueExpr.TheVariants as value
use Rattle.star_model.specs.declared.rules.Condition.TheVariants as condition
use Rattle.star_model.specs.declared.rules.Range.TheVariants as range
use Rattle.star_model.specs.declared.rules.ValueExpr.{ValueExpr}
use Rattle.star_model.specs.declared.rules.Condition.{Condition}
use Rattle.star_model.specs.declared.rules.Range.{Range}
use Rattle.star_model.specs.declared.values.RuleValue.{RuleValue}
use Rattle.star_model.specs.declared.values.RuleValue.TheVariants as is

abbrev pub bound_in_cities : List RuleValue
bound_in_cities = (is.Stream (record { tables = 1; require = record { order = []; site = None; temp = false; path = [] } }) ∷ is.Quants 1 ∷ is.Quants 2 ∷ is.Quants 3 ∷ is.Quants 0 ∷ is.Preds 1 ∷ is.Cols (record { quant = record { 0 = 0 }; column = 0 } ∷ []) ∷ is.Cols (record { quant = record { 0 = 1 }; column = 0 } ∷ []) ∷ [])

abbrev pub tables_of_cities : List (ValueExpr × RuleValue)
tables_of_cities =
    ((v.Tables (value.Variable (codes "A") 0)), is.Quants 1)
    ∷ []

abbrev pub all_of_cities : List (ValueExpr × RuleValue)
all_of_cities =
    (value.All, is.Quants 3)
    ∷ []

abbrev pub inside_of_cities : List (ValueExpr × RuleValue)
inside_of_cities =
    ((v.Inside (value.Variable (codes "ab") 3)), is.Preds 1)
    ∷ ((v.Inside (value.Variable (codes "a") 1)), is.Preds 0)
    ∷ ((v.Inside (value.Variable (codes "nothing") 4)), is.Preds 0)
    ∷ []

abbrev pub crossing_of_cities : List (ValueExpr × RuleValue)
crossing_of_cities =
    ((v.Crossing (value.Variable (codes "a") 1)), is.Preds 1)
    ∷ ((v.Crossing (value.Variable (codes "ab") 3)), is.Preds 0)
    ∷ ((v.Crossing (value.Variable (codes "nothing") 4)), is.Preds 0)
    ∷ []

abbrev pub between_of_cities : List (ValueExpr × RuleValue)
between_of_cities =
    ((v.Between (value.Variable (codes "a") 1) (value.Variable (codes "b") 2)), is.Preds 1)
    ∷ []

abbrev pub keys_of_cities : List (ValueExpr × RuleValue)
keys_of_cities =
    ((v.Keys (value.Variable (codes "J") 5) (value.Variable (codes "a") 1)), is.Cols (record { quant = record { 0 = 0 }; column = 0 } ∷ []))
    ∷ ((v.Keys (value.Variable (codes "J") 5) (value.Variable (codes "b") 2)), is.Cols (record { quant = record { 0 = 1 }; column = 1 } ∷ []))
    ∷ ((v.Keys (value.Variable (codes "J") 5) (value.Variable (codes "nothing") 4)), is.Cols [])
    ∷ []

abbrev pub orderby_of_cities : List (ValueExpr × RuleValue)
orderby_of_cities =
    (value.OrderBy, is.Cols [])
    ∷ []

abbrev pub querysite_of_cities : List (ValueExpr × RuleValue)
querysite_of_cities =
    (value.QuerySite, is.Site (record { 0 = 0 }))
    ∷ []

abbrev pub single_of_cities : List (Condition × Bool)
single_of_cities =
    ((condition.Single (value.Variable (codes "a") 1)), true)
    ∷ ((condition.Single (value.Variable (codes "ab") 3)), false)
    ∷ ((condition.Single (value.Variable (codes "nothing") 4)), false)
    ∷ []

abbrev pub begins_of_cities : List (Condition × Bool)
begins_of_cities =
    ((condition.Begins (value.Variable (codes "D") 6) (value.Variable (codes "E") 7)), false)
    ∷ []

abbrev pub same_of_cities : List (Condition × Bool)
same_of_cities =
    ((condition.Same (value.Variable (codes "D") 6) (value.Variable (codes "E") 7)), false)
    ∷ []

abbrev pub bound_in_unshipped : List RuleValue
bound_in_unshipped = (is.Stream (record { tables = 1; require = record { order = []; site = None; temp = false; path = [] } }) ∷ [])

abbrev pub querysite_of_unshipped : List (ValueExpr × RuleValue)
querysite_of_unshipped =
    (value.QuerySite, is.Site (record { 0 = 1 }))
    ∷ []

abbrev pub home_of_unshipped : List (ValueExpr × RuleValue)
home_of_unshipped =
    ((v.Home (value.Variable (codes "A") 0)), is.Site (record { 0 = 1 }))
    ∷ []

abbrev pub sites_of_unshipped : List (Range × List RuleValue)
sites_of_unshipped =
    (range.Sites, (is.Site (record { 0 = 0 }) ∷ is.Site (record { 0 = 1 }) ∷ []))
    ∷ []

abbrev pub indexes_of_unshipped : List (Range × List RuleValue)
indexes_of_unshipped =
    (range.Indexes (value.Variable (codes "A") 0), [])
    ∷ []

abbrev pub bound_in_shipped : List RuleValue
bound_in_shipped = (is.Stream (record { tables = 1; require = record { order = []; site = None; temp = false; path = [] } }) ∷ [])

abbrev pub querysite_of_shipped : List (ValueExpr × RuleValue)
querysite_of_shipped =
    (value.QuerySite, is.Site (record { 0 = 0 }))
    ∷ []

abbrev pub home_of_shipped : List (ValueExpr × RuleValue)
home_of_shipped =
    ((v.Home (value.Variable (codes "A") 0)), is.Site (record { 0 = 1 }))
    ∷ []

abbrev pub bound_in_own_department : List RuleValue
bound_in_own_department = (is.Stream (record { tables = 1; require = record { order = []; site = None; temp = false; path = [] } }) ∷ is.Quants 1 ∷ is.Preds 1 ∷ [])

abbrev pub inside_of_own_department : List (ValueExpr × RuleValue)
inside_of_own_department =
    ((v.Inside (value.Variable (codes "a") 1)), is.Preds 1)
    ∷ []

abbrev pub equalities_of_own_department : List (ValueExpr × RuleValue)
equalities_of_own_department =
    ((v.Equalities (value.Variable (codes "J") 2)), is.Preds 0)
    ∷ []

abbrev pub crossing_of_own_department : List (ValueExpr × RuleValue)
crossing_of_own_department =
    ((v.Crossing (value.Variable (codes "a") 1)), is.Preds 0)
    ∷ []

abbrev pub keys_of_own_department : List (ValueExpr × RuleValue)
keys_of_own_department =
    ((v.Keys (value.Variable (codes "J") 2) (value.Variable (codes "a") 1)), is.Cols (record { quant = record { 0 = 0 }; column = 0 } ∷ []))
    ∷ []

abbrev pub bound_in_ids_by_department : List RuleValue
bound_in_ids_by_department = (is.Stream (record { tables = 1; require = record { order = []; site = None; temp = false; path = [] } }) ∷ is.Index 0 ∷ is.Cols (record { quant = record { 0 = 0 }; column = 1 } ∷ record { quant = record { 0 = 0 }; column = 0 } ∷ []) ∷ is.Cols (record { quant = record { 0 = 0 }; column = 1 } ∷ []) ∷ is.Cols [] ∷ [])

abbrev pub columns_of_ids_by_department : List (ValueExpr × RuleValue)
columns_of_ids_by_department =
    ((v.Columns (value.Variable (codes "E") 0) (value.Variable (codes "x") 1)), is.Cols (record { quant = record { 0 = 0 }; column = 1 } ∷ record { quant = record { 0 = 0 }; column = 0 } ∷ []))
    ∷ []

abbrev pub orderby_of_ids_by_department : List (ValueExpr × RuleValue)
orderby_of_ids_by_department =
    (value.OrderBy, is.Cols (record { quant = record { 0 = 0 }; column = 1 } ∷ []))
    ∷ []

abbrev pub begins_of_ids_by_department : List (Condition × Bool)
begins_of_ids_by_department =
    ((condition.Begins (value.Variable (codes "C") 2) (value.Variable (codes "D") 3)), true)
    ∷ ((condition.Begins (value.Variable (codes "D") 3) (value.Variable (codes "C") 2)), false)
    ∷ ((condition.Begins (value.Variable (codes "D") 3) (value.Variable (codes "D") 3)), true)
    ∷ ((condition.Begins (value.Variable (codes "D") 3) (value.Variable (codes "N") 4)), true)
    ∷ ((condition.Begins (value.Variable (codes "N") 4) (value.Variable (codes "D") 3)), false)
    ∷ []

abbrev pub same_of_ids_by_department : List (Condition × Bool)
same_of_ids_by_department =
    ((condition.Same (value.Variable (codes "C") 2) (value.Variable (codes "D") 3)), false)
    ∷ ((condition.Same (value.Variable (codes "D") 3) (value.Variable (codes "C") 2)), false)
    ∷ ((condition.Same (value.Variable (codes "D") 3) (value.Variable (codes "D") 3)), true)
    ∷ []

abbrev pub empty_of_ids_by_department : List (Condition × Bool)
empty_of_ids_by_department =
    ((condition.Empty (value.Variable (codes "N") 4)), true)
    ∷ ((condition.Empty (value.Variable (codes "D") 3)), false)
    ∷ []

abbrev pub indexes_of_ids_by_department : List (Range × List RuleValue)
indexes_of_ids_by_department =
    (range.Indexes (value.Variable (codes "E") 0), (is.Index 0 ∷ []))
    ∷ []

abbrev pub bound_in_french_orders : List RuleValue
bound_in_french_orders = (is.Stream (record { tables = 5; require = record { order = []; site = None; temp = false; path = [] } }) ∷ is.Stream (record { tables = 10; require = record { order = []; site = None; temp = false; path = [] } }) ∷ is.Stream (record { tables = 4; require = record { order = (record { quant = record { 0 = 2 }; column = 0 } ∷ []); site = Some (record { 0 = 1 }); temp = true; path = (record { quant = record { 0 = 2 }; column = 1 } ∷ []) } }) ∷ is.Quants 5 ∷ is.Quants 10 ∷ is.Quants 4 ∷ is.Quants 0 ∷ is.Preds 5 ∷ is.Preds 63 ∷ is.Preds 12 ∷ is.Preds 20 ∷ is.Preds 0 ∷ is.Cols (record { quant = record { 0 = 2 }; column = 0 } ∷ record { quant = record { 0 = 4 }; column = 1 } ∷ []) ∷ is.Cols (record { quant = record { 0 = 2 }; column = 1 } ∷ []) ∷ is.Cols [] ∷ is.Index 1 ∷ is.Index 0 ∷ is.Site (record { 0 = 1 }) ∷ is.Site (record { 0 = 0 }) ∷ [])

abbrev pub name_of_french_orders : List (ValueExpr × RuleValue)
name_of_french_orders =
    ((value.Variable (codes "A") 0), is.Stream (record { tables = 5; require = record { order = []; site = None; temp = false; path = [] } }))
    ∷ ((value.Variable (codes "C") 2), is.Stream (record { tables = 4; require = record { order = (record { quant = record { 0 = 2 }; column = 0 } ∷ []); site = Some (record { 0 = 1 }); temp = true; path = (record { quant = record { 0 = 2 }; column = 1 } ∷ []) } }))
    ∷ ((value.Variable (codes "y") 16), is.Index 0)
    ∷ []

abbrev pub order_of_french_orders : List (ValueExpr × RuleValue)
order_of_french_orders =
    ((v.WithOrder (value.Variable (codes "A") 0) (value.Variable (codes "O") 12)), is.Stream (record { tables = 5; require = record { order = (record { quant = record { 0 = 2 }; column = 0 } ∷ record { quant = record { 0 = 4 }; column = 1 } ∷ []); site = None; temp = false; path = [] } }))
    ∷ ((v.WithOrder (value.Variable (codes "C") 2) (value.Variable (codes "O") 12)), is.Stream (record { tables = 4; require = record { order = (record { quant = record { 0 = 2 }; column = 0 } ∷ record { quant = record { 0 = 4 }; column = 1 } ∷ []); site = Some (record { 0 = 1 }); temp = true; path = (record { quant = record { 0 = 2 }; column = 1 } ∷ []) } }))
    ∷ ((v.WithOrder (v.WithOrder (value.Variable (codes "A") 0) (value.Variable (codes "O") 12)) (value.Variable (codes "Q") 14)), is.Stream (record { tables = 5; require = record { order = []; site = None; temp = false; path = [] } }))
    ∷ []

abbrev pub site_of_french_orders : List (ValueExpr × RuleValue)
site_of_french_orders =
    ((v.WithSite (value.Variable (codes "A") 0) (value.Variable (codes "s") 17)), is.Stream (record { tables = 5; require = record { order = []; site = Some (record { 0 = 1 }); temp = false; path = [] } }))
    ∷ ((v.WithSite (value.Variable (codes "C") 2) (value.Variable (codes "t") 18)), is.Stream (record { tables = 4; require = record { order = (record { quant = record { 0 = 2 }; column = 0 } ∷ []); site = Some (record { 0 = 0 }); temp = true; path = (record { quant = record { 0 = 2 }; column = 1 } ∷ []) } }))
    ∷ []

abbrev pub temp_of_french_orders : List (ValueExpr × RuleValue)
temp_of_french_orders =
    ((v.WithTemp (value.Variable (codes "A") 0)), is.Stream (record { tables = 5; require = record { order = []; site = None; temp = true; path = [] } }))
    ∷ ((v.WithTemp (value.Variable (codes "C") 2)), is.Stream (record { tables = 4; require = record { order = (record { quant = record { 0 = 2 }; column = 0 } ∷ []); site = Some (record { 0 = 1 }); temp = true; path = (record { quant = record { 0 = 2 }; column = 1 } ∷ []) } }))
    ∷ []

abbrev pub path_of_french_orders : List (ValueExpr × RuleValue)
path_of_french_orders =
    ((v.WithPath (value.Variable (codes "A") 0) (value.Variable (codes "P") 13)), is.Stream (record { tables = 5; require = record { order = []; site = None; temp = false; path = (record { quant = record { 0 = 2 }; column = 1 } ∷ []) } }))
    ∷ ((v.WithPath (value.Variable (codes "C") 2) (value.Variable (codes "Q") 14)), is.Stream (record { tables = 4; require = record { order = (record { quant = record { 0 = 2 }; column = 0 } ∷ []); site = Some (record { 0 = 1 }); temp = true; path = [] } }))
    ∷ ((v.WithPath (value.Variable (codes "C") 2) (value.Variable (codes "O") 12)), is.Stream (record { tables = 4; require = record { order = (record { quant = record { 0 = 2 }; column = 0 } ∷ []); site = Some (record { 0 = 1 }); temp = true; path = (record { quant = record { 0 = 2 }; column = 0 } ∷ record { quant = record { 0 = 4 }; column = 1 } ∷ []) } }))
    ∷ []

abbrev pub tables_of_french_orders : List (ValueExpr × RuleValue)
tables_of_french_orders =
    ((v.Tables (value.Variable (codes "A") 0)), is.Quants 5)
    ∷ ((v.Tables (value.Variable (codes "C") 2)), is.Quants 4)
    ∷ []

abbrev pub all_of_french_orders : List (ValueExpr × RuleValue)
all_of_french_orders =
    (value.All, is.Quants 31)
    ∷ []

abbrev pub none_of_french_orders : List (ValueExpr × RuleValue)
none_of_french_orders =
    (value.NoPreds, is.Preds 0)
    ∷ []

abbrev pub nocols_of_french_orders : List (ValueExpr × RuleValue)
nocols_of_french_orders =
    (value.NoCols, is.Cols [])
    ∷ []

abbrev pub orderby_of_french_orders : List (ValueExpr × RuleValue)
orderby_of_french_orders =
    (value.OrderBy, is.Cols (record { quant = record { 0 = 2 }; column = 0 } ∷ record { quant = record { 0 = 4 }; column = 1 } ∷ []))
    ∷ []

abbrev pub querysite_of_french_orders : List (ValueExpr × RuleValue)
querysite_of_french_orders =
    (value.QuerySite, is.Site (record { 0 = 0 }))
    ∷ []

abbrev pub inside_of_french_orders : List (ValueExpr × RuleValue)
inside_of_french_orders =
    ((v.Inside (value.Variable (codes "a") 3)), is.Preds 12)
    ∷ ((v.Inside (value.Variable (codes "b") 4)), is.Preds 2)
    ∷ []

abbrev pub crossing_of_french_orders : List (ValueExpr × RuleValue)
crossing_of_french_orders =
    ((v.Crossing (value.Variable (codes "a") 3)), is.Preds 17)
    ∷ ((v.Crossing (value.Variable (codes "b") 4)), is.Preds 49)
    ∷ []

abbrev pub between_of_french_orders : List (ValueExpr × RuleValue)
between_of_french_orders =
    ((v.Between (value.Variable (codes "a") 3) (value.Variable (codes "b") 4)), is.Preds 17)
    ∷ ((v.Between (value.Variable (codes "b") 4) (value.Variable (codes "c") 5)), is.Preds 16)
    ∷ ((v.Between (value.Variable (codes "a") 3) (value.Variable (codes "a") 3)), is.Preds 12)
    ∷ ((v.Between (value.Variable (codes "a") 3) (value.Variable (codes "e") 6)), is.Preds 0)
    ∷ []

abbrev pub equalities_of_french_orders : List (ValueExpr × RuleValue)
equalities_of_french_orders =
    ((v.Equalities (value.Variable (codes "K") 8)), is.Preds 53)
    ∷ ((v.Equalities (value.Variable (codes "M") 10)), is.Preds 20)
    ∷ ((v.Equalities (value.Variable (codes "L") 9)), is.Preds 4)
    ∷ []

abbrev pub indexable_of_french_orders : List (ValueExpr × RuleValue)
indexable_of_french_orders =
    ((v.Indexable (value.Variable (codes "C") 2) (value.Variable (codes "x") 15) (value.Variable (codes "K") 8)), is.Preds 4)
    ∷ ((v.Indexable (value.Variable (codes "C") 2) (value.Variable (codes "x") 15) (value.Variable (codes "N") 11)), is.Preds 0)
    ∷ ((v.Indexable (value.Variable (codes "C") 2) (value.Variable (codes "y") 16) (value.Variable (codes "K") 8)), is.Preds 0)
    ∷ ((v.Indexable (value.Variable (codes "A") 0) (value.Variable (codes "x") 15) (value.Variable (codes "K") 8)), is.Preds 0)
    ∷ []

abbrev pub columns_of_french_orders : List (ValueExpr × RuleValue)
columns_of_french_orders =
    ((v.Columns (value.Variable (codes "C") 2) (value.Variable (codes "x") 15)), is.Cols (record { quant = record { 0 = 2 }; column = 1 } ∷ []))
    ∷ ((v.Columns (value.Variable (codes "C") 2) (value.Variable (codes "y") 16)), is.Cols [])
    ∷ ((v.Columns (value.Variable (codes "A") 0) (value.Variable (codes "x") 15)), is.Cols [])
    ∷ []

abbrev pub keys_of_french_orders : List (ValueExpr × RuleValue)
keys_of_french_orders =
    ((v.Keys (value.Variable (codes "J") 7) (value.Variable (codes "a") 3)), is.Cols (record { quant = record { 0 = 0 }; column = 1 } ∷ record { quant = record { 0 = 2 }; column = 1 } ∷ []))
    ∷ ((v.Keys (value.Variable (codes "J") 7) (value.Variable (codes "c") 5)), is.Cols (record { quant = record { 0 = 2 }; column = 1 } ∷ []))
    ∷ ((v.Keys (value.Variable (codes "K") 8) (value.Variable (codes "b") 4)), is.Cols (record { quant = record { 0 = 1 }; column = 0 } ∷ record { quant = record { 0 = 1 }; column = 1 } ∷ record { quant = record { 0 = 3 }; column = 0 } ∷ record { quant = record { 0 = 3 }; column = 1 } ∷ []))
    ∷ ((v.Keys (value.Variable (codes "N") 11) (value.Variable (codes "a") 3)), is.Cols [])
    ∷ []

abbrev pub home_of_french_orders : List (ValueExpr × RuleValue)
home_of_french_orders =
    ((v.Home (value.Variable (codes "A") 0)), is.Site (record { 0 = 0 }))
    ∷ ((v.Home (value.Variable (codes "B") 1)), is.Site (record { 0 = 0 }))
    ∷ ((v.Home (value.Variable (codes "C") 2)), is.Site (record { 0 = 1 }))
    ∷ []

abbrev pub union_of_french_orders : List (ValueExpr × RuleValue)
union_of_french_orders =
    ((v.Union (value.Variable (codes "a") 3) (value.Variable (codes "b") 4)), is.Quants 15)
    ∷ ((v.Union (value.Variable (codes "J") 7) (value.Variable (codes "L") 9)), is.Preds 13)
    ∷ []

abbrev pub minus_of_french_orders : List (ValueExpr × RuleValue)
minus_of_french_orders =
    ((v.Minus (value.Variable (codes "a") 3) (value.Variable (codes "c") 5)), is.Quants 1)
    ∷ ((v.Minus (value.Variable (codes "c") 5) (value.Variable (codes "a") 3)), is.Quants 0)
    ∷ ((v.Minus (value.Variable (codes "J") 7) (value.Variable (codes "L") 9)), is.Preds 1)
    ∷ []

abbrev pub meet_of_french_orders : List (ValueExpr × RuleValue)
meet_of_french_orders =
    ((v.Meet (value.Variable (codes "a") 3) (value.Variable (codes "c") 5)), is.Quants 4)
    ∷ ((v.Meet (value.Variable (codes "a") 3) (value.Variable (codes "b") 4)), is.Quants 0)
    ∷ ((v.Meet (value.Variable (codes "J") 7) (value.Variable (codes "L") 9)), is.Preds 4)
    ∷ []

abbrev pub empty_of_french_orders : List (Condition × Bool)
empty_of_french_orders =
    ((condition.Empty (value.Variable (codes "N") 11)), true)
    ∷ ((condition.Empty (value.Variable (codes "J") 7)), false)
    ∷ ((condition.Empty (value.Variable (codes "a") 3)), false)
    ∷ ((condition.Empty (value.Variable (codes "e") 6)), true)
    ∷ ((condition.Empty (value.Variable (codes "Q") 14)), true)
    ∷ ((condition.Empty (value.Variable (codes "O") 12)), false)
    ∷ []

abbrev pub single_of_french_orders : List (Condition × Bool)
single_of_french_orders =
    ((condition.Single (value.Variable (codes "c") 5)), true)
    ∷ ((condition.Single (value.Variable (codes "a") 3)), false)
    ∷ ((condition.Single (value.Variable (codes "e") 6)), false)
    ∷ []

abbrev pub same_of_french_orders : List (Condition × Bool)
same_of_french_orders =
    ((condition.Same (value.Variable (codes "a") 3) (value.Variable (codes "b") 4)), false)
    ∷ ((condition.Same (value.Variable (codes "a") 3) (value.Variable (codes "a") 3)), true)
    ∷ ((condition.Same (value.Variable (codes "c") 5) (value.Variable (codes "a") 3)), false)
    ∷ ((condition.Same (value.Variable (codes "J") 7) (value.Variable (codes "K") 8)), false)
    ∷ ((condition.Same (value.Variable (codes "J") 7) (value.Variable (codes "J") 7)), true)
    ∷ ((condition.Same (value.Variable (codes "x") 15) (value.Variable (codes "y") 16)), false)
    ∷ ((condition.Same (value.Variable (codes "x") 15) (value.Variable (codes "x") 15)), true)
    ∷ ((condition.Same (value.Variable (codes "s") 17) (value.Variable (codes "t") 18)), false)
    ∷ ((condition.Same (value.Variable (codes "s") 17) (value.Variable (codes "s") 17)), true)
    ∷ ((condition.Same (value.Variable (codes "O") 12) (value.Variable (codes "P") 13)), false)
    ∷ []

abbrev pub within_of_french_orders : List (Condition × Bool)
within_of_french_orders =
    ((condition.Within (value.Variable (codes "c") 5) (value.Variable (codes "a") 3)), true)
    ∷ ((condition.Within (value.Variable (codes "a") 3) (value.Variable (codes "c") 5)), false)
    ∷ ((condition.Within (value.Variable (codes "a") 3) (value.Variable (codes "a") 3)), true)
    ∷ ((condition.Within (value.Variable (codes "e") 6) (value.Variable (codes "a") 3)), true)
    ∷ ((condition.Within (value.Variable (codes "J") 7) (value.Variable (codes "K") 8)), true)
    ∷ ((condition.Within (value.Variable (codes "K") 8) (value.Variable (codes "J") 7)), false)
    ∷ ((condition.Within (value.Variable (codes "N") 11) (value.Variable (codes "J") 7)), true)
    ∷ ((condition.Within (value.Variable (codes "J") 7) (value.Variable (codes "N") 11)), false)
    ∷ []

abbrev pub begins_of_french_orders : List (Condition × Bool)
begins_of_french_orders =
    ((condition.Begins (value.Variable (codes "O") 12) (value.Variable (codes "P") 13)), false)
    ∷ ((condition.Begins (value.Variable (codes "P") 13) (value.Variable (codes "Q") 14)), true)
    ∷ []

abbrev pub not_of_french_orders : List (Condition × Bool)
not_of_french_orders =
    ((c.Not (condition.Empty (value.Variable (codes "N") 11))), false)
    ∷ ((c.Not (condition.Empty (value.Variable (codes "J") 7))), true)
    ∷ []

abbrev pub and_of_french_orders : List (Condition × Bool)
and_of_french_orders =
    ((c.And (condition.Empty (value.Variable (codes "N") 11)) (condition.Empty (value.Variable (codes "J") 7))), false)
    ∷ ((c.And (condition.Empty (value.Variable (codes "J") 7)) (condition.Empty (value.Variable (codes "N") 11))), false)
    ∷ ((c.And (condition.Empty (value.Variable (codes "N") 11)) (condition.Empty (value.Variable (codes "e") 6))), true)
    ∷ []

abbrev pub or_of_french_orders : List (Condition × Bool)
or_of_french_orders =
    ((c.Or (condition.Empty (value.Variable (codes "J") 7)) (condition.Empty (value.Variable (codes "N") 11))), true)
    ∷ ((c.Or (condition.Empty (value.Variable (codes "N") 11)) (condition.Empty (value.Variable (codes "J") 7))), true)
    ∷ ((c.Or (condition.Empty (value.Variable (codes "J") 7)) (condition.Empty (value.Variable (codes "a") 3))), false)
    ∷ []

abbrev pub indexes_of_french_orders : List (Range × List RuleValue)
indexes_of_french_orders =
    (range.Indexes (value.Variable (codes "C") 2), (is.Index 1 ∷ []))
    ∷ (range.Indexes (value.Variable (codes "A") 0), [])
    ∷ []

abbrev pub sites_of_french_orders : List (Range × List RuleValue)
sites_of_french_orders =
    (range.Sites, (is.Site (record { 0 = 0 }) ∷ is.Site (record { 0 = 1 }) ∷ []))
    ∷ []

abbrev pub members_of_french_orders : List (Range × List RuleValue)
members_of_french_orders =
    (range.Members (value.Variable (codes "b") 4), (is.Quants 2 ∷ is.Quants 8 ∷ []))
    ∷ (range.Members (value.Variable (codes "e") 6), [])
    ∷ []

abbrev pub each_of_french_orders : List (Range × List RuleValue)
each_of_french_orders =
    (range.Each (value.Variable (codes "J") 7), (is.Preds 1 ∷ is.Preds 4 ∷ []))
    ∷ []

abbrev pub bound_in_compared : List RuleValue
bound_in_compared = (is.Quants 1 ∷ is.Quants 2 ∷ is.Preds 511 ∷ [])

abbrev pub equalities_of_compared : List (ValueExpr × RuleValue)
equalities_of_compared =
    ((v.Equalities (value.Variable (codes "K") 2)), is.Preds 128)
    ∷ []

abbrev pub inside_of_compared : List (ValueExpr × RuleValue)
inside_of_compared =
    ((v.Inside (value.Variable (codes "a") 0)), is.Preds 319)
    ∷ ((v.Inside (value.Variable (codes "b") 1)), is.Preds 0)
    ∷ []

abbrev pub crossing_of_compared : List (ValueExpr × RuleValue)
crossing_of_compared =
    ((v.Crossing (value.Variable (codes "a") 0)), is.Preds 192)
    ∷ []

abbrev pub between_of_compared : List (ValueExpr × RuleValue)
between_of_compared =
    ((v.Between (value.Variable (codes "a") 0) (value.Variable (codes "b") 1)), is.Preds 192)
    ∷ []

abbrev pub keys_of_compared : List (ValueExpr × RuleValue)
keys_of_compared =
    ((v.Keys (value.Variable (codes "K") 2) (value.Variable (codes "b") 1)), is.Cols (record { quant = record { 0 = 1 }; column = 0 } ∷ record { quant = record { 0 = 1 }; column = 1 } ∷ []))
    ∷ []
