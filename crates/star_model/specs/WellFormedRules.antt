-- Well-formed rule files: operators have the form and the arguments of their flavours, variables have their places, and counts are limited.
use Rattle.std.specs.Prelude.{◌≡◌, ℕ, ◌+◌, ◌≤◌, Bool, true, false, not, ◌&&◌, ◌||◌, max, min, List, [], ◌∷◌, ◌++◌, length, map, nat_eq, nat_lt, codes, unwrap_or, Option, Some, None}
use Rattle.std.specs.List.{list_all}
use Rattle.star_model.specs.Limits.{most_alternatives, most_nesting, most_nodes, most_parameters, most_ranges, most_stars, no_place}
use Rattle.star_model.specs.Every.{Every, HasItem}
use Rattle.star_model.specs.Names.{place_of, is_among}
use Rattle.star_model.specs.Kinds.{argument_kinds, inputs_of}
use Rattle.star_model.specs.Monotone.{nodes}
use Rattle.star_model.specs.WellFormed.{differ}
use Rattle.star_model.specs.FlavourWords.{is_flavour_of}
use Rattle.star_model.specs.FormulaCases as formula
use Rattle.star_model.specs.declared.formula.Formula.{Formula}
use Rattle.star_model.specs.declared.formula.Var.{Var}
use Rattle.star_model.specs.declared.formula.Var.TheVariants as var
use Rattle.star_model.specs.ValueCases.{WithOrder, WithSite, WithTemp, WithPath, Tables, Inside, Crossing, Between, Equalities, Indexable, Columns, Keys, Home, Union, Minus, Meet}
use Rattle.star_model.specs.ConditionCases as condition
use Rattle.star_model.specs.PlanExprCases as expr
use Rattle.star_model.specs.declared.rules.ValueExpr.{ValueExpr}
use Rattle.star_model.specs.declared.rules.ValueExpr.TheVariants as value
use Rattle.star_model.specs.declared.rules.Condition.{Condition}
use Rattle.star_model.specs.declared.rules.Condition.TheVariants as plain_condition
use Rattle.star_model.specs.declared.rules.Range.{Range}
use Rattle.star_model.specs.declared.rules.Range.TheVariants as range
use Rattle.star_model.specs.declared.rules.PlanExpr.{PlanExpr}
use Rattle.star_model.specs.declared.rules.PlanExpr.TheVariants as plain
use Rattle.star_model.specs.declared.rules.Flavour.{Flavour}
use Rattle.star_model.specs.declared.rules.ForAll.{ForAll}
use Rattle.star_model.specs.declared.rules.Alternative.{Alternative}
use Rattle.star_model.specs.declared.rules.StarDef.{StarDef}
use Rattle.star_model.specs.declared.rules.FormulaDef.{FormulaDef}
use Rattle.star_model.specs.declared.rules.SelectDef.{SelectDef}
use Rattle.star_model.specs.declared.rules.RuleFile.{RuleFile}

-- ---- names

-- no STAR, parameter or for-all value has such a name
abbrev pub reserved_words : List (List ℕ)
reserved_words =
    codes "stream" ∷ codes "quants" ∷ codes "preds" ∷ codes "cols" ∷ codes "site" ∷ codes "index"
    ∷ codes "ACCESS_HEAP" ∷ codes "ACCESS_INDEX" ∷ codes "GET" ∷ codes "FILTER" ∷ codes "SORT" ∷ codes "STORE" ∷ codes "SHIP" ∷ codes "PROBE"
    ∷ codes "JOIN_NL" ∷ codes "JOIN_MERGE" ∷ codes "JOIN_HASH" ∷ codes "Glue"
    ∷ codes "cost" ∷ codes "rescan" ∷ codes "star" ∷ codes "give" ∷ codes "for" ∷ codes "in" ∷ codes "when"
    ∷ codes "if" ∷ codes "then" ∷ codes "else" ∷ codes "min" ∷ codes "max"
    ∷ codes "order" ∷ codes "temp" ∷ codes "path" ∷ codes "tables" ∷ codes "all" ∷ codes "none" ∷ codes "inside" ∷ codes "crossing"
    ∷ codes "between" ∷ codes "equalities" ∷ codes "indexable" ∷ codes "nocols" ∷ codes "orderby" ∷ codes "columns" ∷ codes "keys"
    ∷ codes "home" ∷ codes "querysite" ∷ codes "union" ∷ codes "minus" ∷ codes "meet" ∷ codes "indexes" ∷ codes "sites"
    ∷ codes "members" ∷ codes "each" ∷ codes "empty" ∷ codes "single" ∷ codes "same" ∷ codes "within" ∷ codes "begins"
    ∷ codes "not" ∷ codes "and" ∷ codes "or" ∷ []

-- nor such a one in version 2
abbrev pub words_of_version_2 : List (List ℕ)
words_of_version_2 =
    codes "version" ∷ codes "selectivity" ∷ codes "per" ∷ codes "EQ_CONST" ∷ codes "EQ_COLUMN" ∷ codes "NE" ∷ codes "LESS" ∷ codes "INTERSECT" ∷ []

abbrev pub is_reserved : ℕ → List ℕ → Bool
is_reserved version name = is_among reserved_words name || (nat_eq version 2 && is_among words_of_version_2 name)

abbrev pub IsName : ℕ → List ℕ → Type 0
IsName version name = is_reserved version name ≡ false

-- the names that may be used at a place of a rule file of this version
pub record Scope : Type 0 where
  pub version : ℕ
  pub names : List (List ℕ)

abbrev pub with_name : Scope → List ℕ → Scope
with_name scope name = record { version = scope.version; names = scope.names ++ name ∷ [] }

-- the place of a name among those that may be used, and 255 where it isn't one of the first 255
abbrev pub place_among : List (List ℕ) → List ℕ → ℕ
place_among scope name = min no_place (unwrap_or (place_of name scope) no_place)

-- Each variable has a name that isn't reserved, and the place of this name among those that may be used.
unfoldable pub IsValue : Scope → ValueExpr → Type 0
IsValue scope (value.Variable name place) = IsName scope.version name × (place ≡ place_among scope.names name)
IsValue scope (WithOrder t v) = IsValue scope t × IsValue scope v
IsValue scope (WithSite t v) = IsValue scope t × IsValue scope v
IsValue scope (WithPath t v) = IsValue scope t × IsValue scope v
IsValue scope (WithTemp t) = IsValue scope t
IsValue scope value.All = Unit {0}
IsValue scope value.NoPreds = Unit {0}
IsValue scope value.NoCols = Unit {0}
IsValue scope value.OrderBy = Unit {0}
IsValue scope value.QuerySite = Unit {0}
IsValue scope (Tables v) = IsValue scope v
IsValue scope (Inside v) = IsValue scope v
IsValue scope (Crossing v) = IsValue scope v
IsValue scope (Equalities v) = IsValue scope v
IsValue scope (Home v) = IsValue scope v
IsValue scope (Between v w) = IsValue scope v × IsValue scope w
IsValue scope (Columns v w) = IsValue scope v × IsValue scope w
IsValue scope (Keys v w) = IsValue scope v × IsValue scope w
IsValue scope (Union v w) = IsValue scope v × IsValue scope w
IsValue scope (Minus v w) = IsValue scope v × IsValue scope w
IsValue scope (Meet v w) = IsValue scope v × IsValue scope w
IsValue scope (Indexable t x v) = IsValue scope t × IsValue scope x × IsValue scope v

abbrev pub IsRange : Scope → Range → Type 0
IsRange scope (range.Indexes t) = IsValue scope t
IsRange scope range.Sites = Unit {0}
IsRange scope (range.Members v) = IsValue scope v
IsRange scope (range.Each v) = IsValue scope v

unfoldable pub IsCondition : Scope → Condition → Type 0
IsCondition scope (plain_condition.Empty v) = IsValue scope v
IsCondition scope (plain_condition.Single v) = IsValue scope v
IsCondition scope (plain_condition.Same v w) = IsValue scope v × IsValue scope w
IsCondition scope (plain_condition.Within v w) = IsValue scope v × IsValue scope w
IsCondition scope (plain_condition.Begins v w) = IsValue scope v × IsValue scope w
IsCondition scope (condition.Not c) = IsCondition scope c
IsCondition scope (condition.And c d) = IsCondition scope c × IsCondition scope d
IsCondition scope (condition.Or c d) = IsCondition scope c × IsCondition scope d

-- the arguments that an operator takes beside its plans
abbrev pub arguments_of : Flavour → ℕ
arguments_of f = length (argument_kinds f)

-- so many plans, and the other arguments of an operator
pub record IsOperator (scope : Scope) (plans : ℕ) (f : Flavour) (arguments : List ValueExpr) : Type 0 where
  pub known : is_flavour_of scope.version f ≡ true
  pub inputs : inputs_of f ≡ plans
  pub count : length arguments ≡ arguments_of f
  pub values : Every (IsValue scope) arguments

unfoldable pub IsPlan : Scope → PlanExpr → Type 0
IsPlan scope (plain.Reference star arguments) = IsName scope.version star × HasItem arguments × Every (IsValue scope) arguments
IsPlan scope (plain.Glue stream preds) = IsValue scope stream × IsValue scope preds
IsPlan scope (plain.Leaf f arguments) = IsOperator scope 0 f arguments
IsPlan scope (expr.Unary f arguments input) = IsOperator scope 1 f arguments × IsPlan scope input
IsPlan scope (expr.Binary f arguments left right) = IsOperator scope 2 f arguments × IsPlan scope left × IsPlan scope right

-- a range sees the parameters and the names of the ranges before it
abbrev pub AreRanges : Scope → List ForAll → Type 0
AreRanges scope [] = Unit {0}
AreRanges scope (f ∷ later) = IsName scope.version f.name × IsRange scope f.range × AreRanges (with_name scope f.name) later

abbrev pub IsConditionIfAny : Scope → Option Condition → Type 0
IsConditionIfAny scope None = Unit {0}
IsConditionIfAny scope (Some c) = IsCondition scope c

-- the parameters and the for-all names
abbrev pub scope_of : Scope → Alternative → Scope
scope_of parameters a = record { version = parameters.version; names = parameters.names ++ map (λ f. f.name) a.ranges }

-- in the scope of its STAR's parameters
pub record IsAlternative (parameters : Scope) (a : Alternative) : Type 0 where
  pub ranges : AreRanges parameters a.ranges
  pub condition : IsConditionIfAny (scope_of parameters a) a.condition
  pub body : IsPlan (scope_of parameters a) a.body

abbrev pub parameters_of : StarDef → List (List ℕ)
parameters_of s = map (λ p. p.name) s.params

abbrev pub scope_of_star : ℕ → StarDef → Scope
scope_of_star version s = record { version = version; names = parameters_of s }

-- in a rule file of this version
pub record IsStar (version : ℕ) (s : StarDef) : Type 0 where
  pub name : IsName version s.name
  pub some_parameters : HasItem s.params
  pub parameters : Every (IsName version) (parameters_of s)
  pub some_alternatives : HasItem s.alternatives
  pub alternatives : Every (IsAlternative (scope_of_star version s)) s.alternatives

abbrev pub HasFewRanges : Alternative → Type 0
HasFewRanges a = length a.ranges ≤ most_ranges

-- how many operators, references and Glue stand inside one another
unfoldable pub nesting : PlanExpr → ℕ
nesting (plain.Reference star arguments) = 1
nesting (plain.Glue stream preds) = 1
nesting (plain.Leaf f arguments) = 1
nesting (expr.Unary f arguments input) = 1 + nesting input
nesting (expr.Binary f arguments left right) = 1 + max (nesting left) (nesting right)

abbrev pub IsShallow : Alternative → Type 0
IsShallow a = nesting a.body ≤ most_nesting

pub record KeepsStarLimits (s : StarDef) : Type 0 where
  pub parameters : length s.params ≤ most_parameters
  pub alternatives : length s.alternatives ≤ most_alternatives
  pub ranges : Every HasFewRanges s.alternatives
  pub bodies : Every IsShallow s.alternatives

-- ---- formulas

-- the variables of predicates, which stand in selectivities and in no cost formula
abbrev pub is_of_selectivity : Var → Bool
is_of_selectivity var.Distinct1 = true
is_of_selectivity var.Rows1 = true
is_of_selectivity var.Distinct2 = true
is_of_selectivity var.Rows2 = true
is_of_selectivity _ = false

abbrev pub is_of_cost : Var → Bool
is_of_cost x = not (is_of_selectivity x)

-- whether the node at the top is no variable, or one that passes
abbrev pub names_at_top : (Var → Bool) → Formula → Bool
names_at_top may (formula.Variable x) = may x
names_at_top may _ = true

-- whether each variable passes
abbrev pub names_only : (Var → Bool) → Formula → Bool
names_only may f = list_all (names_at_top may) (nodes f)

-- a formula with such variables, of few nodes
pub record IsFormula (may : Var → Bool) (f : Formula) : Type 0 where
  pub variables : names_only may f ≡ true
  pub few_nodes : length (nodes f) ≤ most_nodes

-- in a rule file of this version
pub record IsFormulaDef (version : ℕ) (d : FormulaDef) : Type 0 where
  pub known : is_flavour_of version d.flavour ≡ true
  pub formula : IsFormula is_of_cost d.formula

pub record IsSelectDef (d : SelectDef) : Type 0 where
  pub num : IsFormula is_of_selectivity d.num
  pub den : IsFormula is_of_selectivity d.den

-- ---- files

abbrev pub statement_numbers : RuleFile → List ℕ
statement_numbers rules =
    map (λ d. d.statement) rules.selects ++ (map (λ d. d.statement) rules.formulas ++ map (λ s. s.statement) rules.stars)

-- Operators have the form and the arguments of their flavours, variables have their places, each statement has a number of its own, and
-- the limits are kept.
pub record WellFormedRules (rules : RuleFile) : Type 0 where
  pub version : (nat_eq rules.version 1 || nat_eq rules.version 2) ≡ true
  pub selects_of_version : rules.version ≡ 1 → rules.selects ≡ []
  -- the first statement of version 2 says the version
  pub after_version : rules.version ≡ 2 → list_all (nat_lt 1) (statement_numbers rules) ≡ true
  pub numbers_differ : differ nat_eq (statement_numbers rules) ≡ true
  pub selects : Every IsSelectDef rules.selects
  pub formulas : Every (IsFormulaDef rules.version) rules.formulas
  pub few_stars : length rules.stars ≤ most_stars
  pub stars : Every (IsStar rules.version) rules.stars
  pub limits : Every KeepsStarLimits rules.stars
