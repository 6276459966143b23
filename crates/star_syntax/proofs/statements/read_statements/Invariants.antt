use Rattle.std.proofs.Common.{List}
use Rattle.sb_text.specs.Statements.{parts_of_iter}
use Rattle.rule_grammar.specs.RuleLimits.{RuleStatement}
use Rattle.star_syntax.proofs.ReadLaws.{IsReading}
use Rattle.star_syntax.proofs.statements.read_statements.Given as goal

abbrev pub invariant-loop-statement : goal.invariant-loop-statement
invariant-loop-statement l = (done : List RuleStatement) × IsReading l.source done (parts_of_iter l.statement-iterator) l.read l.number
