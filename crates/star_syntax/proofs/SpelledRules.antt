-- A text spells the rule file that its statements define.
use Rattle.std.proofs.Common.{◌≡◌, ◌+◌, ◌<◌, ◌⊎◌, inl, inr, ℕ, List, [], ◌∷◌, refl, subst, arith}
use Rattle.star_model.specs.declared.rules.StarDef.{StarDef}
use Rattle.star_model.specs.declared.rules.FormulaDef.{FormulaDef}
use Rattle.star_model.specs.declared.rules.SelectDef.{SelectDef}
use Rattle.spelling.specs.Lexemes.{Lexeme, IsStatements}
use Rattle.rule_grammar.specs.Rules as rule
use Rattle.rule_grammar.specs.Rules.{Definition, OfVersion, OfSelect, OfFormula, OfStar, SpellsDefinitions, SpellsRules}
use Rattle.rule_grammar.specs.RuleLimits.{RuleStatement, SpellsNumbered, AreSpelled, version_of, version_said, SaysRules}
use Rattle.star_syntax.specs.Statements.{lists_of, with_select, with_formula, with_star, selects_of, formulas_of, stars_of, rules_of}

-- the version is said before these statements
abbrev Behind : ℕ → ℕ → Type 0
Behind version n = (1 < n) ⊎ (version ≡ 1)

behind_more : (version n : ℕ) → Behind version n → Behind version (n + 1)
behind_more version n (inl more) = inl (omega (arith, more))
behind_more version n (inr one) = inr one

define_first : (version n : ℕ) (lexemes : List Lexeme) (definition : Definition) (later : List (List Lexeme)) (selects : List SelectDef) (formulas : List FormulaDef) (stars : List StarDef)
    → Behind version n → SpellsNumbered version n lexemes definition → SpellsDefinitions version (n + 1) later selects formulas stars
    → SpellsDefinitions version n (lexemes ∷ later) (with_select definition selects) (with_formula definition formulas) (with_star definition stars)
define_first version n lexemes OfVersion later selects formulas stars (inl more) spells define = absurd (omega (arith, more, spells.0))
define_first version n lexemes OfVersion later selects formulas stars (inr one) spells define = absurd (omega (arith, one, spells.1))
define_first version n lexemes (OfSelect d) later selects formulas stars behind spells define = rule.select spells define
define_first version n lexemes (OfFormula d) later selects formulas stars behind spells define = rule.formula spells define
define_first version n lexemes (OfStar s) later selects formulas stars behind spells define = rule.star spells define

defines : (version n : ℕ) (statements : List RuleStatement) → Behind version n → AreSpelled version n statements
    → SpellsDefinitions version n (lists_of statements) (selects_of statements) (formulas_of statements) (stars_of statements)
defines version n [] behind spelled = rule.none
defines version n (s ∷ later) behind spelled =
    define_first version n s.lexemes s.defines (lists_of later) (selects_of later) (formulas_of later) (stars_of later) behind spelled.0
    (defines version (n + 1) later (behind_more version n behind) spelled.1)

first_spells : (text : List ℕ) (lexemes : List Lexeme) (d : Definition) (later : List RuleStatement) → IsStatements text (lexemes ∷ lists_of later)
    → SpellsNumbered (version_of d) 1 lexemes d → AreSpelled (version_of d) 2 later → SpellsRules text (rules_of (version_of d) (record { lexemes = lexemes; defines = d } ∷ later))
first_spells text lexemes OfVersion later are spells spelled = record {
  version = refl;
  statements = lists_of later;
  are = subst (λ (l : List Lexeme). IsStatements text (l ∷ lists_of later)) spells.2 are;
  define = defines 2 2 later (inl (omega arith)) spelled;
}
first_spells text lexemes (OfSelect d) later are spells spelled = absurd (let no : 1 ≡ 2 = spells.of_version in omega (arith, no))
first_spells text lexemes (OfFormula d) later are spells spelled =
    record { version = refl; statements = lexemes ∷ lists_of later; are = are; define = rule.formula spells (defines 1 2 later (inr refl) spelled) }
first_spells text lexemes (OfStar s) later are spells spelled =
    record { version = refl; statements = lexemes ∷ lists_of later; are = are; define = rule.star spells (defines 1 2 later (inr refl) spelled) }

pub says_spells : (text : List ℕ) (statements : List RuleStatement) → SaysRules text statements → SpellsRules text (rules_of (version_said statements) statements)
says_spells text [] says = record { version = refl; statements = []; are = says.are; define = rule.none }
says_spells text (s ∷ later) says = first_spells text s.lexemes s.defines later says.are says.spelled.0 says.spelled.1
