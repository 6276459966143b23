-- What the statements of a rule file come to, one after the other.
use Rattle.std.specs.Prelude.{◌≡◌, ℕ, true, List, [], ◌∷◌, ◌++◌, length, map, Option, Some, None, option_map, Result, Ok, Err}
use Rattle.star_model.specs.declared.faults.LimitKind.{LimitKind}
use Rattle.star_model.specs.declared.faults.RuleFault.{RuleFault}
use Rattle.star_model.specs.declared.faults.RuleFault.TheVariants as fault
use Rattle.star_model.specs.declared.rules.SelectDef.{SelectDef}
use Rattle.star_model.specs.declared.rules.FormulaDef.{FormulaDef}
use Rattle.star_model.specs.declared.rules.StarDef.{StarDef}
use Rattle.star_model.specs.declared.rules.RuleFile.{RuleFile}
use Rattle.spelling.specs.Lexemes.{Lexeme, MaybeEnded}
use Rattle.spelling.specs.Firsts.{NoneHas}
use Rattle.spelling.specs.Syntax.{IsUnderstood}
use Rattle.rule_grammar.specs.Rules.{Definition, OfVersion, OfSelect, OfFormula, OfStar}
use Rattle.rule_grammar.specs.RuleLimits.{RuleStatement, SpellsNumbered, AreSpelled, SaysRules, IsBeyond}
use Rattle.spelling.specs.declared.unread.Unread.{Unread}
use Rattle.spelling.specs.declared.unread.Unread.TheVariants.{Strange, Memory}
use Rattle.star_syntax.specs.declared.statements.RulesSoFar.{RulesSoFar}
use Rattle.star_syntax.specs.Faults.{IsStrangeAt, IsLimitAt}
use Rattle.star_syntax.specs.LimitTests.{limit_beyond}
use Rattle.star_syntax.specs.Versions.{version_of_text}

-- the lexemes of each statement
abbrev pub lists_of : List RuleStatement → List (List Lexeme)
lists_of statements = map (λ s. s.lexemes) statements

-- the first, or else the second
abbrev pub found_or : {A : Type 0} → Option A → Option A → Option A
found_or (Some x) other = Some x
found_or None other = other

-- ---- what the statements define, each kind in their order

abbrev pub with_select : Definition → List SelectDef → List SelectDef
with_select OfVersion later = later
with_select (OfSelect d) later = d ∷ later
with_select (OfFormula d) later = later
with_select (OfStar s) later = later

abbrev pub with_formula : Definition → List FormulaDef → List FormulaDef
with_formula OfVersion later = later
with_formula (OfSelect d) later = later
with_formula (OfFormula d) later = d ∷ later
with_formula (OfStar s) later = later

abbrev pub with_star : Definition → List StarDef → List StarDef
with_star OfVersion later = later
with_star (OfSelect d) later = later
with_star (OfFormula d) later = later
with_star (OfStar s) later = s ∷ later

abbrev pub selects_of : List RuleStatement → List SelectDef
selects_of [] = []
selects_of (s ∷ later) = with_select s.defines (selects_of later)

abbrev pub formulas_of : List RuleStatement → List FormulaDef
formulas_of [] = []
formulas_of (s ∷ later) = with_formula s.defines (formulas_of later)

abbrev pub stars_of : List RuleStatement → List StarDef
stars_of [] = []
stars_of (s ∷ later) = with_star s.defines (stars_of later)

-- the rule file of this version that they define
abbrev pub rules_of : ℕ → List RuleStatement → RuleFile
rules_of version statements =
    record { version = version; selects = selects_of statements; formulas = formulas_of statements; stars = stars_of statements }

-- with this definition at the end
abbrev pub with_definition : RuleFile → Definition → RuleFile
with_definition rules OfVersion = rules
with_definition rules (OfSelect d) = record rules { selects = rules.selects ++ d ∷ [] }
with_definition rules (OfFormula d) = record rules { formulas = rules.formulas ++ d ∷ [] }
with_definition rules (OfStar s) = record rules { stars = rules.stars ++ s ∷ [] }

-- ---- reading them

-- the statement with this number is the first beyond a limit, and this is the first limit that it goes beyond; or none is
abbrev pub IsFirstLimit : List RuleStatement → Option (ℕ × LimitKind) → Type 0
IsFirstLimit statements None = NoneHas IsBeyond statements
IsFirstLimit statements (Some found) = IsLimitAt statements found.0 found.1

-- in this version this is what the statements define, and the first limit that one of them goes beyond
pub record AreSoFar (version : ℕ) (statements : List RuleStatement) (read : RulesSoFar) : Type 0 where
  pub spelled : AreSpelled version 1 statements
  pub rules : read.rules ≡ rules_of version statements
  pub limit : IsFirstLimit statements read.beyond

-- the first limit that was gone beyond, where the statement with this number comes next
abbrev pub limit_so_far : RulesSoFar → ℕ → RuleStatement → Option (ℕ × LimitKind)
limit_so_far before n statement = found_or before.beyond (option_map (λ what. (n, what)) (limit_beyond (length before.rules.stars) statement))

-- the statement with this number goes on with those so far
pub record GoesOn (n : ℕ) (statement : MaybeEnded) (before after : RulesSoFar) : Type 0 where
  pub ended : statement.1 ≡ true
  pub defines : Definition
  pub spelled : SpellsNumbered before.rules.version n statement.0 defines
  pub rules : after.rules ≡ with_definition before.rules defines
  pub beyond : after.beyond ≡ limit_so_far before n (record { lexemes = statement.0; defines = defines })

abbrev pub StatementRead : ℕ → MaybeEnded → RulesSoFar → Result (Unit {0}) Unread → RulesSoFar → Type 0
StatementRead n statement before (Ok done) after = GoesOn n statement before after
StatementRead n statement before (Err Strange) after = IsUnderstood (SpellsNumbered before.rules.version n) statement → ⊥
StatementRead n statement before (Err Memory) after = Unit {0}

-- what the statements of a text define, or the first that isn't understood
abbrev pub StatementsRead : List ℕ → Result RulesSoFar RuleFault → Type 0
StatementsRead text (Ok read) = (statements : List RuleStatement) × SaysRules text statements × AreSoFar (version_of_text text) statements read
StatementsRead text (Err (fault.Syntax k)) = IsStrangeAt text k
StatementsRead text (Err fault.Memory) = Unit {0}
StatementsRead text (Err _) = ⊥
