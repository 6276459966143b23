-- What a statement says of its node.
use Rattle.std.specs.Prelude.{◌≡◌}
use Rattle.spelling.specs.Lexemes.{MaybeEnded, ended}
use Rattle.derivation_reading.specs.Derivations.{Step, statement_of, IsStep}
use Rattle.derivation_reading.specs.Derivations as step
use Rattle.derivation_reading.specs.declared.nodes.Node.{Node}
use Rattle.derivation_reading.specs.declared.nodes.Node.TheVariants as node

-- a node of the code, as the grammar has it
abbrev pub said : Node → Step
said (node.Glue chain) = step.Glue chain
said (node.Goal goal split) = step.Goal goal split
said (node.Reference star alternative values) = step.Reference star alternative values
said (node.Operator flavour) = step.Operator flavour

-- the statement is this node's
pub record SaysNode (statement : MaybeEnded) (node : Step) : Type 0 where
  pub is : statement ≡ ended (statement_of node)
  pub stands : IsStep node
