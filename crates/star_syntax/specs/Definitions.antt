-- What a statement is for, and what its reading answers.
use Rattle.std.specs.Prelude.{◌≡◌, ◌<◌, ◌^◌, ℕ, true, length, Result, Ok, Err}
use Rattle.star_model.specs.Monotone.{nodes}
use Rattle.spelling.specs.Lexemes.{MaybeEnded}
use Rattle.spelling.specs.Syntax.{IsUnderstood}
use Rattle.rule_grammar.specs.Rules.{OfVersion, OfSelect, OfFormula, OfStar}
use Rattle.rule_grammar.specs.Rules as rules
use Rattle.rule_grammar.specs.RuleLimits.{SpellsNumbered}
use Rattle.star_syntax.specs.declared.definition.Definition.{Definition}
use Rattle.star_syntax.specs.declared.definition.Definition.TheVariants.{Version, Select, Formula, Star}
use Rattle.spelling.specs.declared.unread.Unread.{Unread}
use Rattle.spelling.specs.declared.unread.Unread.TheVariants.{Strange, Memory}

abbrev pub defined : Definition → rules.Definition
defined Version = OfVersion
defined (Select d) = OfSelect d
defined (Formula d) = OfFormula d
defined (Star s) = OfStar s

-- each of its formulas has fewer nodes than a machine word counts
abbrev pub HasFewNodes : Definition → Type 0
HasFewNodes Version = Unit {0}
HasFewNodes (Select d) = (length (nodes d.num) < 2 ^ 64) × (length (nodes d.den) < 2 ^ 64)
HasFewNodes (Formula d) = length (nodes d.formula) < 2 ^ 64
HasFewNodes (Star s) = Unit {0}

-- what the statement with this number defines in a rule file of this version, or that it isn't understood
abbrev pub DefinitionRead : ℕ → ℕ → MaybeEnded → Result Definition Unread → Type 0
DefinitionRead version n statement (Ok definition) = (statement.1 ≡ true) × SpellsNumbered version n statement.0 (defined definition)
DefinitionRead version n statement (Err Strange) = IsUnderstood (SpellsNumbered version n) statement → ⊥
DefinitionRead version n statement (Err Memory) = Unit {0}
