-- The faults of a derivation's text, and what reading it answers.
use Rattle.std.specs.Prelude.{◌≡◌, ℕ, ◌+◌, ◌<◌, ◌≤◌, ◌⊎◌, List, length, map, Some, Result, Ok, Err}
use Rattle.sb_text.specs.Refusal.{fault_of}
use Rattle.sb_text.specs.declared.token.TextFault.TheVariants as token_fault
use Rattle.star_model.specs.declared.derivations.Deriv.{Deriv}
use Rattle.spelling.specs.Lexemes.{MaybeEnded, ended, statements_in}
use Rattle.star_model.specs.Every.{Every}
use Rattle.spelling.specs.Firsts.{FirstAt, NoneHas}
use Rattle.derivation_reading.specs.Derivations.{Step, statement_of, IsStep, SpellsDerivation}
use Rattle.derivation_reading.specs.declared.fault.DerivFault.{DerivFault}
use Rattle.derivation_reading.specs.declared.fault.DerivFault.TheVariants.{Lexical, TooDeep, Syntax, TooTall, Memory}
use Rattle.derivation_reading.specs.Nodes.{SaysNode}
use Rattle.derivation_reading.specs.Places.{places_behind, MayStand}
use Rattle.derivation_reading.specs.Ancestors.{ancestors, IsTooFar, IsLow}

-- ---- statements

-- these are the statements of these nodes
pub record SayNodes (statements : List MaybeEnded) (nodes : List Step) : Type 0 where
  pub are : statements ≡ map ended (map statement_of nodes)
  pub stand : Every IsStep nodes

-- the statement says a node that may stand where those before it leave a place
pub record GoesOn (before : List MaybeEnded) (statement : MaybeEnded) : Type 0 where
  pub nodes : List Step
  pub node : Step
  pub say : SayNodes before nodes
  pub says : SaysNode statement node
  pub place : 0 < places_behind 1 nodes
  pub order : MayStand nodes node

abbrev pub IsStrange : List MaybeEnded → MaybeEnded → Type 0
IsStrange before statement = GoesOn before statement → ⊥

-- each statement goes on, and a place is left behind the last
pub record EndsEarly (statements : List MaybeEnded) : Type 0 where
  pub clear : NoneHas IsStrange statements
  pub nodes : List Step
  pub say : SayNodes statements nodes
  pub place : 0 < places_behind 1 nodes

-- the number, from 1, of the first statement that isn't understood; of the one behind the last where the text ends early
abbrev pub IsStrangeAt : List MaybeEnded → ℕ → Type 0
IsStrangeAt statements k = FirstAt IsStrange statements k ⊎ (EndsEarly statements × (k ≡ length statements + 1))

-- ---- the faults of a text

abbrev pub HasFault : List ℕ → DerivFault → Type 0
HasFault text (Lexical offset) = fault_of text ≡ Some (token_fault.Lexical offset)
HasFault text (TooDeep k) = fault_of text ≡ Some (token_fault.TooDeep k)
HasFault text (Syntax k) = IsStrangeAt (statements_in text) k
HasFault text (TooTall k) = (tree : Deriv) × SpellsDerivation text tree × FirstAt IsTooFar (ancestors 0 tree) k
HasFault text Memory = ⊥

-- the order in which the faults are judged, each over the whole text
abbrev pub fault_rank : DerivFault → ℕ
fault_rank (Lexical offset) = 0
fault_rank (TooDeep k) = 1
fault_rank (Syntax k) = 2
fault_rank (TooTall k) = 3
fault_rank Memory = 4

pub record IsFirstFault (text : List ℕ) (fault : DerivFault) : Type 0 where
  pub has : HasFault text fault
  pub first : (other : DerivFault) → HasFault text other → fault_rank fault ≤ fault_rank other

-- the text spells the derivation, which has few enough levels, and has no fault
pub record IsAccepted (text : List ℕ) (tree : Deriv) : Type 0 where
  pub spells : SpellsDerivation text tree
  pub low : IsLow tree
  pub clear : (fault : DerivFault) → HasFault text fault → ⊥

-- what reading a text answers; want of memory may come at any text
abbrev pub ReadsDerivation : List ℕ → Result Deriv DerivFault → Type 0
ReadsDerivation text (Ok tree) = IsAccepted text tree
ReadsDerivation text (Err Memory) = Unit {0}
ReadsDerivation text (Err fault) = IsFirstFault text fault
