use Rattle.std.proofs.Common.{sym, ◌∙◌}
use Rattle.query_graph.proofs.StatementLaws.{first_tokens, no_statement, first_is_strange, second_is_strange, only_statement}
use Rattle.query_graph.proofs.statement.read_statement.Goals as goal

pub returns-in_default : goal.returns-in_default
returns-in_default c = no_statement _ _ c.requires (sym c.statements-rest.ensures ∙ c.in_default.ensures.steps.0)

pub understood-requires : goal.understood-requires
understood-requires c = first_tokens _ _ _ _ c.requires (sym c.statements-rest.ensures ∙ c.in-Some.ensures.steps)

pub returns-in-Err-Strange : goal.returns-in-Err-Strange
returns-in-Err-Strange c = first_is_strange _ _ _ _ c.requires (sym c.statements-rest.ensures ∙ c.in-Some.ensures.steps) (rw c.in-Err-Strange.field-0-is at c.in-Err-Strange.ensures)

pub returns-then-is_some : goal.returns-then-is_some
returns-then-is_some c = second_is_strange _ _ _ _ _ _ _ c.requires (sym c.statements-rest.ensures ∙ c.in-Some.ensures.steps) c.next-2.ensures.steps c.if-is_some.ensures c.in-Ok.ensures

pub returns : goal.returns
returns c = only_statement _ _ _ _ _ _ _ c.requires (sym c.statements-rest.ensures ∙ c.in-Some.ensures.steps) c.next-2.ensures.steps c.if-is_some.ensures c.in-Ok.ensures
