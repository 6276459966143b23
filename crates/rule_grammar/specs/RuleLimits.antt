-- What a rule file's text says, statement by statement, and the limits that its statements keep.
use Rattle.std.specs.Prelude.{◌≡◌, ℕ, ◌+◌, ◌<◌, ◌≤◌, ◌⊎◌, [], ◌∷◌, Bool, true, false, List, length, map, Contains}
use Rattle.std.specs.List.{count_by}
use Rattle.star_model.specs.Limits.{most_alternatives, most_nesting, most_nodes, most_parameters, most_ranges, most_stars}
use Rattle.star_model.specs.Monotone.{nodes}
use Rattle.star_model.specs.declared.rules.Alternative.{Alternative}
use Rattle.star_model.specs.declared.rules.StarDef.{StarDef}
use Rattle.star_model.specs.declared.rules.FormulaDef.{FormulaDef}
use Rattle.star_model.specs.declared.rules.SelectDef.{SelectDef}
use Rattle.star_model.specs.declared.rules.RuleFile.{RuleFile}
use Rattle.star_model.specs.declared.faults.LimitKind.{LimitKind}
use Rattle.star_model.specs.declared.faults.LimitKind.TheVariants as limit
use Rattle.spelling.specs.Lexemes.{Lexeme, IsStatements}
use Rattle.star_model.specs.Every.{Every}
use Rattle.spelling.specs.Limits.{HasGreatNumber, HasLongWord, IsFirstBeyond}
use Rattle.rule_grammar.specs.Rules.{Definition, OfVersion, OfSelect, OfFormula, OfStar, SpellsSelectDef, SpellsFormulaDef, SpellsStar, version_lexemes, star_lexemes, formula_def_lexemes, select_def_lexemes}
use Rattle.star_model.specs.WellFormedRules.{nesting}

-- in a rule file of this version the lexemes of the statement with this number define this; the first may say version 2
abbrev pub SpellsNumbered : ℕ → ℕ → List Lexeme → Definition → Type 0
SpellsNumbered version n lexemes OfVersion = (n ≡ 1) × (version ≡ 2) × (lexemes ≡ version_lexemes)
SpellsNumbered version n lexemes (OfSelect d) = SpellsSelectDef version n lexemes d
SpellsNumbered version n lexemes (OfFormula d) = SpellsFormulaDef version n lexemes d
SpellsNumbered version n lexemes (OfStar s) = SpellsStar version n lexemes s

-- the lexemes define this, in a statement of any number; so they don't say the version
abbrev pub SpellsDefinition : ℕ → List Lexeme → Definition → Type 0
SpellsDefinition version lexemes OfVersion = ⊥
SpellsDefinition version lexemes (OfSelect d) = SpellsSelectDef version d.statement lexemes d
SpellsDefinition version lexemes (OfFormula d) = SpellsFormulaDef version d.statement lexemes d
SpellsDefinition version lexemes (OfStar s) = SpellsStar version s.statement lexemes s

-- a statement, and what it defines
pub record RuleStatement : Type 0 where
  pub lexemes : List Lexeme
  pub defines : Definition

-- the statements from this number on
abbrev pub AreSpelled : ℕ → ℕ → List RuleStatement → Type 0
AreSpelled version n [] = Unit {0}
AreSpelled version n (s ∷ later) = SpellsNumbered version n s.lexemes s.defines × AreSpelled version (n + 1) later

-- the version of a rule file whose first statement is for this
abbrev pub version_of : Definition → ℕ
version_of OfVersion = 2
version_of (OfSelect d) = 1
version_of (OfFormula d) = 1
version_of (OfStar s) = 1

abbrev pub version_said : List RuleStatement → ℕ
version_said [] = 1
version_said (s ∷ later) = version_of s.defines

-- these are the statements of the text, numbered from 1, whether or not they keep the limits
pub record SaysRules (text : List ℕ) (statements : List RuleStatement) : Type 0 where
  pub are : IsStatements text (map (λ s. s.lexemes) statements)
  pub spelled : AreSpelled (version_said statements) 1 statements

-- ---- what goes beyond a limit

abbrev pub HasAlternative : (Alternative → Type 0) → StarDef → Type 0
HasAlternative P s = (a : Alternative) × Contains s.alternatives a × P a

abbrev pub is_of_star : Definition → Bool
is_of_star OfVersion = false
is_of_star (OfSelect d) = false
is_of_star (OfFormula d) = false
is_of_star (OfStar s) = true

abbrev pub is_star : RuleStatement → Bool
is_star statement = is_of_star statement.defines

-- how many of the statements define STARs
abbrev pub count_of_stars : List RuleStatement → ℕ
count_of_stars statements = count_by is_star statements

-- Behind so many STARs: this is the 65th or a later one, it has over 8 parameters, over 16 alternatives, one with over 2 for-all
-- clauses, or one whose body nests over 8 deep; or the formula, or one of a selectivity's two, has over 256 nodes.
abbrev pub DefinesBeyond : ℕ → Definition → LimitKind → Type 0
DefinesBeyond stars (OfStar s) limit.Params = most_parameters < length s.params
DefinesBeyond stars (OfStar s) limit.Alternatives = most_alternatives < length s.alternatives
DefinesBeyond stars (OfStar s) limit.ForAlls = HasAlternative (λ a. most_ranges < length a.ranges) s
DefinesBeyond stars (OfStar s) limit.Stars = most_stars ≤ stars
DefinesBeyond stars (OfStar s) limit.Depth = HasAlternative (λ a. most_nesting < nesting a.body) s
DefinesBeyond stars (OfFormula d) limit.Formula = most_nodes < length (nodes d.formula)
DefinesBeyond stars (OfSelect d) limit.Formula = (most_nodes < length (nodes d.num)) ⊎ (most_nodes < length (nodes d.den))
DefinesBeyond stars _ _ = ⊥

-- behind these statements; or a number is over the greatest, or a word over 64 bytes
abbrev pub Beyond : List RuleStatement → RuleStatement → LimitKind → Type 0
Beyond earlier statement limit.Number = HasGreatNumber statement.lexemes
Beyond earlier statement limit.Name = HasLongWord statement.lexemes
Beyond earlier statement what = DefinesBeyond (count_of_stars earlier) statement.defines what

-- the first limit that it goes beyond is this one
abbrev pub BeyondFirst : LimitKind → List RuleStatement → RuleStatement → Type 0
BeyondFirst what earlier statement = IsFirstBeyond (Beyond earlier statement) what

abbrev pub IsBeyond : List RuleStatement → RuleStatement → Type 0
IsBeyond earlier statement = (what : LimitKind) × Beyond earlier statement what

-- ---- what reading gives, beside a well-formed rule file

-- no number is beyond the greatest
abbrev pub HasSmallNumbers : FormulaDef → Type 0
HasSmallNumbers d = HasGreatNumber (formula_def_lexemes d) → ⊥

abbrev pub HasSmallSelectNumbers : SelectDef → Type 0
HasSmallSelectNumbers d = HasGreatNumber (select_def_lexemes d) → ⊥

-- no word is over 64 bytes
abbrev pub HasShortWords : StarDef → Type 0
HasShortWords s = HasLongWord (star_lexemes s) → ⊥

pub record KeepsLexemeLimits (rules : RuleFile) : Type 0 where
  pub selects : Every HasSmallSelectNumbers rules.selects
  pub numbers : Every HasSmallNumbers rules.formulas
  pub words : Every HasShortWords rules.stars
