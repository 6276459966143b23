-- What the texts of a workload say.
use Rattle.std.specs.Prelude.{◌≡◌}
use Rattle.star_model.specs.Accepted.{IsAccepted}
use Rattle.star_model.specs.Selectivity.{selects_of, weighed}
use Rattle.star_model.specs.WellFormed.{WellFormedQuery}
use Rattle.star_model.specs.WellFormedRules.{WellFormedRules}
use Rattle.star_model.specs.declared.query.Query.{Query}
use Rattle.star_model.specs.declared.rules.RuleFile.{RuleFile}
use Rattle.catalogue.specs.Catalogues.{SpellsCatalogue}
use Rattle.query_graph.specs.Queries.{SpellsQuery}
use Rattle.rule_grammar.specs.Rules.{SpellsRules}
use Rattle.rule_grammar.specs.RuleLimits.{KeepsLexemeLimits}
use Rattle.workload_gen.specs.declared.workload.Workload.{Workload}

-- They say these rules, which keep all limits and are accepted, and this query over the catalogue, whose predicates have the
-- selectivities that the rules give.
pub record Says (made : Workload) (rules : RuleFile) (query : Query) : Type 0 where
  pub of_rules : SpellsRules made.rules rules
  pub formed_rules : WellFormedRules rules
  pub fits : KeepsLexemeLimits rules
  pub accepted : IsAccepted rules
  pub spelled : Query
  pub of_catalogue : SpellsCatalogue made.catalogue spelled.catalogue
  pub of_query : SpellsQuery spelled.catalogue made.query spelled
  pub by_rules : query ≡ weighed (selects_of rules) spelled
  pub formed : WellFormedQuery query
