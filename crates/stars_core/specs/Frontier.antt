-- The text of a frontier: a line for each vector.
use Rattle.std.specs.Prelude.{◌≡◌, ℕ, Bool, true, false, List, [], ◌∷◌, ◌++◌, codes, slice_get}
use Rattle.std.specs.List.{flat_map}
use Rattle.std.specs.Option.{option_map_or}
use Rattle.std.specs.Fmt.{decimal}
use Rattle.star_model.specs.Cardinality.{table_of}
use Rattle.star_model.specs.declared.columns.Col.{Col}
use Rattle.star_model.specs.declared.columns.Site.{Site}
use Rattle.star_model.specs.declared.rules.RuleFile.{RuleFile}
use Rattle.star_model.specs.declared.query.Query.{Query as QueryTree}
use Rattle.star_model.specs.declared.plans.Props.{Props}
use Rattle.plan_choice.specs.FrontierLists.{IsFrontierList}
use Rattle.stars_core.specs.declared.status.Ending.{Ending}
use Rattle.stars_core.specs.declared.status.Ending.TheVariants as endings
use Rattle.stars_core.specs.Plan.{HasNoPlan, no_plan}

-- what is not there has the empty name

abbrev pub site_name : QueryTree → Site → List ℕ
site_name query s = option_map_or (λ d. d.name) (slice_get query.catalogue.sites s.0) []

abbrev pub quantifier_name : QueryTree → ℕ → List ℕ
quantifier_name query n = option_map_or (λ d. d.name) (slice_get query.quants n) []

abbrev pub column_name : QueryTree → Col → List ℕ
column_name query c = option_map_or (λ t. option_map_or (λ d. d.name) (slice_get t.columns c.column) []) (table_of query c.quant.0) []

-- the quantifier's name, a dot and the column's name
abbrev pub column_text : QueryTree → Col → List ℕ
column_text query c = quantifier_name query c.quant.0 ++ codes "." ++ column_name query c

-- the columns behind the first
abbrev pub further_columns : QueryTree → List Col → List ℕ
further_columns query cols = flat_map (λ c. codes ", " ++ column_text query c) cols

-- the columns with commas between
abbrev pub columns_text : QueryTree → List Col → List ℕ
columns_text query [] = []
columns_text query (c ∷ cols) = column_text query c ++ further_columns query cols

abbrev pub yes_or_no : Bool → List ℕ
yes_or_no true = codes "yes"
yes_or_no false = codes "no"

-- the parts of the line of a vector

abbrev pub costs_text : Props → List ℕ
costs_text v = codes "cost " ++ decimal v.cost ++ codes " rescan " ++ decimal v.rescan

abbrev pub place_text : QueryTree → Props → List ℕ
place_text query v = codes " site " ++ site_name query v.site ++ codes " temp " ++ yes_or_no v.temp

abbrev pub lists_text : QueryTree → Props → List ℕ
lists_text query v = codes " order [" ++ columns_text query v.order ++ codes "] path [" ++ columns_text query v.path ++ codes "]"

abbrev pub frontier_line : QueryTree → Props → List ℕ
frontier_line query v = costs_text v ++ place_text query v ++ lists_text query v ++ 10 ∷ []

-- how the search for the query's goal ends, and the text of each end
abbrev pub FrontierText : RuleFile → QueryTree → Ending → List ℕ → Type 0
FrontierText rules query endings.Done text = (list : List Props) × IsFrontierList query rules list × (list ≡ [] → ⊥) × (text ≡ flat_map (frontier_line query) list)
FrontierText rules query endings.NoPlan text = HasNoPlan rules query × (text ≡ no_plan)
