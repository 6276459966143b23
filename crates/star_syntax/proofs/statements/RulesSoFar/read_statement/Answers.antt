use Rattle.std.proofs.Common.{arith}
use Rattle.star_syntax.proofs.DefinitionLaws.{few_nodes_defined}
use Rattle.star_syntax.proofs.statements.RulesSoFar.read_statement.Goals as goal

pub limit_with-self-requires-clause-nodes : goal.limit_with-self-requires-clause-nodes
limit_with-self-requires-clause-nodes c =
    few_nodes_defined c.args.self.now.rules.version c.args.number c.args.source.now c.args.statement.now.tokens.now c.in_ok-definition.definition c.in_ok-definition.ensures.1 (omega arith)
