-- Which text spells a rule file.
use Rattle.std.specs.Prelude.{◌≡◌, ℕ, ◌+◌, ◌≤◌, true, ◌||◌, nat_eq, List, [], ◌∷◌, ◌++◌, length, map, Option, Some, None, codes, nat_lt, if◌then◌else◌}
use Rattle.std.specs.List.{flat_map}
use Rattle.star_model.specs.PlanExprCases as expr
use Rattle.star_model.specs.declared.rules.PlanExpr.{PlanExpr}
use Rattle.star_model.specs.declared.rules.PlanExpr.TheVariants as plain
use Rattle.star_model.specs.declared.rules.Condition.{Condition}
use Rattle.star_model.specs.declared.rules.ForAll.{ForAll}
use Rattle.star_model.specs.declared.rules.Alternative.{Alternative}
use Rattle.star_model.specs.declared.rules.Param.{Param}
use Rattle.star_model.specs.declared.rules.StarDef.{StarDef}
use Rattle.star_model.specs.declared.rules.FormulaDef.{FormulaDef}
use Rattle.star_model.specs.declared.rules.SelectDef.{SelectDef}
use Rattle.star_model.specs.declared.rules.RuleFile.{RuleFile}
use Rattle.spelling.specs.Lexemes.{Lexeme, Word, Number, IsStatements, bar, equals, joined_by, call}
use Rattle.star_model.specs.Every.{Every}
use Rattle.spelling.specs.Layout.{layout}
use Rattle.star_model.specs.FlavourWords.{flavour_word, which_word, kind_word, class_word, is_flavour_of}
use Rattle.cost_formula.specs.Formulas.{SpellsFormula, SpellsSelect, formula_lexemes}
use Rattle.rule_grammar.specs.Values.{value_lexemes, range_lexemes, condition_lexemes}
use Rattle.star_model.specs.WellFormedRules.{IsStar, HasFewRanges}

-- ---- plans

-- an operator's plans stand before its other arguments
unfoldable pub plan_lexemes : PlanExpr → List Lexeme
plan_lexemes (plain.Reference star arguments) = call star (map value_lexemes arguments)
plan_lexemes (plain.Glue stream preds) = call (codes "Glue") (value_lexemes stream ∷ value_lexemes preds ∷ [])
plan_lexemes (plain.Leaf f arguments) = call (flavour_word f) (map value_lexemes arguments)
plan_lexemes (expr.Unary f arguments input) = call (flavour_word f) (plan_lexemes input ∷ map value_lexemes arguments)
plan_lexemes (expr.Binary f arguments left right) = call (flavour_word f) (plan_lexemes left ∷ plan_lexemes right ∷ map value_lexemes arguments)

-- ---- alternatives

abbrev pub for_lexemes : ForAll → List Lexeme
for_lexemes f = Word (codes "for") ∷ Word f.name ∷ Word (codes "in") ∷ range_lexemes f.range

abbrev pub when_lexemes : Option Condition → List Lexeme
when_lexemes None = []
when_lexemes (Some c) = Word (codes "when") ∷ condition_lexemes c

abbrev pub alternative_lexemes : Alternative → List Lexeme
alternative_lexemes a = flat_map for_lexemes a.ranges ++ (when_lexemes a.condition ++ Word (codes "give") ∷ plan_lexemes a.body)

-- ---- statements

abbrev pub parameter_lexemes : Param → List Lexeme
parameter_lexemes p = Word p.name ∷ Word (kind_word p.kind) ∷ []

abbrev pub star_lexemes : StarDef → List Lexeme
star_lexemes s =
    Word (codes "star") ∷ (call s.name (map parameter_lexemes s.params) ++ equals ∷ joined_by bar (map alternative_lexemes s.alternatives))

-- in a rule file of this version the lexemes of the statement with this number define the STAR
pub record SpellsStar (version n : ℕ) (lexemes : List Lexeme) (s : StarDef) : Type 0 where
  pub number : s.statement ≡ n
  pub are : lexemes ≡ star_lexemes s
  pub stands : IsStar version s

pub record SpellsFormulaDef (version n : ℕ) (lexemes : List Lexeme) (d : FormulaDef) : Type 0 where
  pub known : is_flavour_of version d.flavour ≡ true
  pub number : d.statement ≡ n
  pub formula : List Lexeme
  pub are : lexemes ≡ Word (which_word d.which) ∷ Word (flavour_word d.flavour) ∷ equals ∷ formula
  pub spelled : SpellsFormula formula d.formula

pub record SpellsSelectDef (version n : ℕ) (lexemes : List Lexeme) (d : SelectDef) : Type 0 where
  pub of_version : version ≡ 2
  pub number : d.statement ≡ n
  pub num : List Lexeme
  pub den : List Lexeme
  pub are : lexemes ≡ Word (codes "selectivity") ∷ Word (class_word d.class) ∷ equals ∷ (num ++ Word (codes "per") ∷ den)
  pub spelled_num : SpellsSelect num d.num
  pub spelled_den : SpellsSelect den d.den

-- how they are written with the fewest brackets
abbrev pub formula_def_lexemes : FormulaDef → List Lexeme
formula_def_lexemes d = Word (which_word d.which) ∷ Word (flavour_word d.flavour) ∷ equals ∷ formula_lexemes d.formula

abbrev pub select_def_lexemes : SelectDef → List Lexeme
select_def_lexemes d =
    Word (codes "selectivity") ∷ Word (class_word d.class) ∷ equals ∷ (formula_lexemes d.num ++ Word (codes "per") ∷ formula_lexemes d.den)

-- how the version is said
abbrev pub version_lexemes : List Lexeme
version_lexemes = Word (codes "version") ∷ Number 2 ∷ []

-- The statements before all others: version 2 is said, and version 1 isn't.
abbrev pub version_statements : ℕ → List (List Lexeme)
version_statements version = if nat_eq version 2 then version_lexemes ∷ [] else []

-- the statements from this number on define these selectivities, formulas and STARs, each list in their order
pub data SpellsDefinitions (version : ℕ) : ℕ → List (List Lexeme) → List SelectDef → List FormulaDef → List StarDef → Type 0 where
  none : {number : ℕ} → SpellsDefinitions version number [] [] [] []
  select : {number : ℕ} {lexemes : List Lexeme} {later : List (List Lexeme)} {d : SelectDef} {selects : List SelectDef} {formulas : List FormulaDef} {stars : List StarDef}
      → SpellsSelectDef version number lexemes d → SpellsDefinitions version (number + 1) later selects formulas stars
      → SpellsDefinitions version number (lexemes ∷ later) (d ∷ selects) formulas stars
  formula : {number : ℕ} {lexemes : List Lexeme} {later : List (List Lexeme)} {d : FormulaDef} {selects : List SelectDef} {formulas : List FormulaDef} {stars : List StarDef}
      → SpellsFormulaDef version number lexemes d → SpellsDefinitions version (number + 1) later selects formulas stars
      → SpellsDefinitions version number (lexemes ∷ later) selects (d ∷ formulas) stars
  star : {number : ℕ} {lexemes : List Lexeme} {later : List (List Lexeme)} {s : StarDef} {selects : List SelectDef} {formulas : List FormulaDef} {stars : List StarDef}
      → SpellsStar version number lexemes s → SpellsDefinitions version (number + 1) later selects formulas stars
      → SpellsDefinitions version number (lexemes ∷ later) selects formulas (s ∷ stars)

pub record SpellsRules (text : List ℕ) (rules : RuleFile) : Type 0 where
  pub version : (nat_eq rules.version 1 || nat_eq rules.version 2) ≡ true
  -- behind the one that says the version
  pub statements : List (List Lexeme)
  pub are : IsStatements text (version_statements rules.version ++ statements)
  pub define : SpellsDefinitions rules.version (1 + length (version_statements rules.version)) statements rules.selects rules.formulas rules.stars

-- ---- how a rule file is written: by the numbers of its statements

-- what a statement is for: it says version 2, or it defines this
pub data Definition : Type 0 where
  OfVersion : Definition
  OfSelect : SelectDef → Definition
  OfFormula : FormulaDef → Definition
  OfStar : StarDef → Definition

abbrev pub number_of : Definition → ℕ
number_of OfVersion = 1
number_of (OfSelect d) = d.statement
number_of (OfFormula d) = d.statement
number_of (OfStar s) = s.statement

abbrev pub definition_lexemes : Definition → List Lexeme
definition_lexemes OfVersion = version_lexemes
definition_lexemes (OfSelect d) = select_def_lexemes d
definition_lexemes (OfFormula d) = formula_def_lexemes d
definition_lexemes (OfStar s) = star_lexemes s

-- before the first with a greater number
abbrev pub put_in : Definition → List Definition → List Definition
put_in x [] = x ∷ []
put_in x (y ∷ later) = if nat_lt (number_of x) (number_of y) then x ∷ y ∷ later else y ∷ put_in x later

unfoldable pub in_order : List Definition → List Definition
in_order [] = []
in_order (x ∷ later) = put_in x (in_order later)

abbrev pub definitions : List SelectDef → List FormulaDef → List StarDef → List Definition
definitions selects formulas stars = in_order (map OfSelect selects ++ (map OfFormula formulas ++ map OfStar stars))

abbrev pub rule_lexemes : RuleFile → List (List Lexeme)
rule_lexemes rules = version_statements rules.version ++ map definition_lexemes (definitions rules.selects rules.formulas rules.stars)

abbrev pub canonical : RuleFile → List ℕ
canonical rules = layout (rule_lexemes rules)

-- ---- rule files whose derivations can be written: each alternative has a number that can be, and few for-all clauses

pub record HasFewParts (s : StarDef) : Type 0 where
  pub alternatives : length s.alternatives ≤ 65535
  pub ranges : Every HasFewRanges s.alternatives

abbrev pub KeepsCounts : RuleFile → Type 0
KeepsCounts rules = Every HasFewParts rules.stars
