-- The faults of a rule file's text that its reading finds, and what the reading answers.
use Rattle.std.specs.Prelude.{◌≡◌, ℕ, ◌+◌, ◌-◌, ◌≤◌, List, length, take, slice_get, Some, Result, Ok, Err}
use Rattle.sb_text.specs.Refusal.{fault_of}
use Rattle.sb_text.specs.declared.token.TextFault.TheVariants as text_fault
use Rattle.star_model.specs.declared.faults.LimitKind.{LimitKind}
use Rattle.star_model.specs.declared.faults.RuleFault.{RuleFault}
use Rattle.star_model.specs.declared.faults.RuleFault.TheVariants.{Lexical, TooDeep, Syntax, Limit, Unknown, Twice, Arity, Kind, Cycle, GlueInAccess, NoRoot, NoFormula, NotMonotone, TooTall, TooWide, Memory}
use Rattle.star_model.specs.declared.rules.RuleFile.{RuleFile}
use Rattle.spelling.specs.Firsts.{FirstAt}
use Rattle.spelling.specs.Lexemes.{MaybeEnded, statements_in}
use Rattle.spelling.specs.Syntax.{IsUnderstood}
use Rattle.rule_grammar.specs.Rules.{SpellsRules}
use Rattle.rule_grammar.specs.RuleLimits.{RuleStatement, SpellsNumbered, SaysRules, IsBeyond, BeyondFirst, KeepsLexemeLimits}
use Rattle.star_model.specs.WellFormedRules.{WellFormedRules}
use Rattle.star_syntax.specs.Versions.{version_of_text}

-- Behind these statements of a rule file of this version the statement isn't understood: no `;` ends it, or there it defines nothing.
abbrev pub IsStrange : ℕ → List MaybeEnded → MaybeEnded → Type 0
IsStrange version before statement = IsUnderstood (SpellsNumbered version (length before + 1)) statement → ⊥

-- the number, from 1, of the first statement that isn't understood in the version that the text says
abbrev pub IsStrangeAt : List ℕ → ℕ → Type 0
IsStrangeAt text k = FirstAt (IsStrange (version_of_text text)) (statements_in text) k

-- the statement with this number, from 1, is the first beyond a limit, and this is the first limit that it goes beyond
pub record IsLimitAt (statements : List RuleStatement) (k : ℕ) (what : LimitKind) : Type 0 where
  pub first : FirstAt IsBeyond statements k
  pub statement : RuleStatement
  pub is : slice_get statements (k - 1) ≡ Some statement
  pub limit : BeyondFirst what (take (k - 1) statements) statement

-- A fault of the text alone. The others are of the rules that it spells, and are judged once it is read.
abbrev pub HasFault : List ℕ → RuleFault → Type 0
HasFault text (Lexical offset) = fault_of text ≡ Some (text_fault.Lexical offset)
HasFault text (TooDeep k) = fault_of text ≡ Some (text_fault.TooDeep k)
HasFault text (Syntax k) = IsStrangeAt text k
HasFault text (Limit k what) = (statements : List RuleStatement) × SaysRules text statements × IsLimitAt statements k what
HasFault text (Unknown k) = ⊥
HasFault text (Twice k) = ⊥
HasFault text (Arity k) = ⊥
HasFault text (Kind k) = ⊥
HasFault text (Cycle k) = ⊥
HasFault text (GlueInAccess k) = ⊥
HasFault text (NoRoot root) = ⊥
HasFault text (NoFormula flavour) = ⊥
HasFault text (NotMonotone flavour which node) = ⊥
HasFault text (TooTall k height) = ⊥
HasFault text (TooWide k weight) = ⊥
HasFault text Memory = ⊥

-- the order in which these faults are judged, each over the whole text
abbrev pub fault_rank : RuleFault → ℕ
fault_rank (Lexical offset) = 0
fault_rank (TooDeep k) = 1
fault_rank (Syntax k) = 2
fault_rank (Limit k what) = 3
fault_rank _ = 4

pub record IsFirstFault (text : List ℕ) (fault : RuleFault) : Type 0 where
  pub has : HasFault text fault
  pub first : (other : RuleFault) → HasFault text other → fault_rank fault ≤ fault_rank other

-- the text spells a rule file that is well formed, and has none of these faults
pub record IsRead (text : List ℕ) (rules : RuleFile) : Type 0 where
  pub spells : SpellsRules text rules
  pub formed : WellFormedRules rules
  pub fits : KeepsLexemeLimits rules
  pub clear : (fault : RuleFault) → HasFault text fault → ⊥

-- what reading a text answers; want of memory may come at any text
abbrev pub ReadsRules : List ℕ → Result RuleFile RuleFault → Type 0
ReadsRules text (Ok rules) = IsRead text rules
ReadsRules text (Err Memory) = Unit {0}
ReadsRules text (Err fault) = IsFirstFault text fault
