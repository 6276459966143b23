-- What reading a statement answers: the one node that it says, or that it says none.
use Rattle.std.proofs.Common.{◌≡◌, true, false, List, [], Some, Err, sym, ap, ◌∙◌}
use Rattle.std.proofs.lemmas.Option.{some_pair_parts}
use Rattle.spelling.specs.Lexemes.{Lexeme, MaybeEnded}
use Rattle.derivation_reading.specs.Derivations.{Step}
use Rattle.spelling.specs.declared.unread.Unread.{Unread}
use Rattle.spelling.specs.declared.unread.Unread.TheVariants.{Strange, Memory}
use Rattle.derivation_reading.specs.Nodes.{SaysNode}
use Rattle.derivation_reading.specs.NodeReading.{Answers, NodeRead}
use Rattle.derivation_reading.specs.StatementReading.{node_at}
use Rattle.derivation_reading.proofs.StatementLaws.{node_is_read, node_is_spelled}

-- what a statement says is read
pub says_read : (statement : MaybeEnded) (node : Step) → SaysNode statement node → node_at statement.0 ≡ Some (node, [])
says_read statement node says = ap node_at (ap (λ (s : MaybeEnded). s.0) says.is) ∙ node_is_read node says.stands

pub one_node : (statement : MaybeEnded) (a b : Step) → SaysNode statement a → SaysNode statement b → a ≡ b
one_node statement a b p q = (some_pair_parts a b [] [] (sym (says_read statement a p) ∙ says_read statement b q)).0

-- where all lexemes of an ended statement are read, it says what is read
pub all_read : (statement : MaybeEnded) (rest : List Lexeme) (node : Step) → statement.1 ≡ true → node_at statement.0 ≡ Some (node, rest) → rest ≡ [] → SaysNode statement node
all_read statement rest node is read none =
    let stands = node_is_spelled statement.0 node (read ∙ ap (λ (l : List Lexeme). Some (node, l)) none) in
    record { is = λ i. (stands.are i, is i); stands = stands.stands }

pub not_ended : (statement : MaybeEnded) → statement.1 ≡ false → (node : Step) → SaysNode statement node → ⊥
not_ended statement open_ node says = let e = sym open_ ∙ ap (λ (s : MaybeEnded). s.1) says.is in cc

pub error_told : (statement : MaybeEnded) (left : List Lexeme) (error : Unread) → Answers (node_at statement.0) (Err error) left → NodeRead statement (Err error)
error_told statement left Strange none = λ node says. let e = sym none ∙ says_read statement node says in cc
error_told statement left Memory none = tt

pub more_left : (statement : MaybeEnded) (rest : List Lexeme) (read : Step) → node_at statement.0 ≡ Some (read, rest) → (rest ≡ [] → ⊥) → (node : Step) → SaysNode statement node → ⊥
more_left statement rest read is some node says = some (some_pair_parts read node rest [] (sym is ∙ says_read statement node says)).1
