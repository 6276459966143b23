-- What the reading of all statements answers.
use Rattle.std.specs.Prelude.{◌≡◌, ◌<◌, ◌≤◌, ℕ, List, [], ◌∷◌, ◌++◌, length, map, Result, Ok, Err}
use Rattle.sb_text.specs.Limits.{most_text_bytes}
use Rattle.spelling.specs.Lexemes.{statements_in}
use Rattle.derivation_reading.specs.Derivations.{Step}
use Rattle.derivation_reading.specs.declared.fault.DerivFault.{DerivFault}
use Rattle.derivation_reading.specs.declared.fault.DerivFault.TheVariants as fault
use Rattle.derivation_reading.specs.declared.nodes.Node.{Node}
use Rattle.derivation_reading.specs.Nodes.{said}
use Rattle.derivation_reading.specs.Places.{places_behind, MayStand}
use Rattle.derivation_reading.specs.Faults.{SayNodes, IsStrangeAt}

-- behind those before, each finds a place that it may fill
abbrev pub Follow : List Step → List Step → Type 0
Follow before [] = Unit {0}
Follow before (node ∷ later) = (0 < places_behind 1 before) × MayStand before node × Follow (before ++ node ∷ []) later

-- these are the nodes of a derivation, in preorder
pub record AreWhole (nodes : List Step) : Type 0 where
  pub follow : Follow [] nodes
  pub none_left : places_behind 1 nodes ≡ 0

-- the text says these nodes
pub record SaysWhole (text : List ℕ) (nodes : List Step) : Type 0 where
  pub say : SayNodes (statements_in text) nodes
  pub whole : AreWhole nodes

-- the nodes that the statements say, or the first statement that isn't understood
abbrev pub NodesRead : List ℕ → Result (List Node) DerivFault → Type 0
NodesRead text (Ok nodes) = SaysWhole text (map said nodes) × (length nodes ≤ most_text_bytes)
NodesRead text (Err (fault.Syntax k)) = IsStrangeAt (statements_in text) k
NodesRead text (Err fault.Memory) = Unit {0}
NodesRead text (Err _) = ⊥
