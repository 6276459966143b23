use Rattle.std.proofs.Common.{List, ℕ, ap, sym, subst, ◌∙◌}
use Rattle.star_model.specs.Selectivity.{weighed}
use Rattle.catalogue.specs.Faults as of_catalogue
use Rattle.query_graph.specs.Faults as of_query
use Rattle.workload_runs.specs.AcceptedTexts.{IsCatalogueText, IsQueryText}
use Rattle.workload_runs.proofs.Accepting.{made_rules, made_catalogue, made_query, case_says}
use Rattle.workload_runs.proofs.reading.read_case.Goals as goal

pub read_rule_file-requires : goal.read_rule_file-requires
read_rule_file-requires c = c.as_slice.ensures ∙ made_rules c.args.made.now c.requires

pub catalogue_of-requires : goal.catalogue_of-requires
catalogue_of-requires c = subst IsCatalogueText (sym c.as_slice-2.ensures) (made_catalogue c.args.made.now c.requires)

pub query_of-requires : goal.query_of-requires
query_of-requires c =
    let c_is = c.in_ok-catalogue.catalogue in
    let accepted = subst (λ (t : List ℕ). of_catalogue.IsAccepted t c_is) c.as_slice-2.ensures c.in_ok-catalogue.ensures in
    record {
      catalogue = accepted.formed;
      text = subst (λ (t : List ℕ). IsQueryText c_is t) (sym c.as_slice-3.ensures) (made_query c.args.made.now c.requires c_is accepted);
    }

pub returns : goal.returns
returns c =
    let c_is = c.in_ok-catalogue.catalogue in
    let q_is = c.in_ok-query.query in
    let accepted = subst (λ (t : List ℕ). of_catalogue.IsAccepted t c_is) c.as_slice-2.ensures c.in_ok-catalogue.ensures in
    let asked = subst (λ (t : List ℕ). of_query.IsAccepted c_is t q_is) c.as_slice-3.ensures c.in_ok-query.ensures in
    let weighs = c.weigh.ensures ∙ ap (λ s. weighed s q_is) c.selects.ensures in
    case_says c.args.made.now c.requires c.in_ok-rules-2.rules c_is q_is c.weigh.new.query c.in_ok-rules-2.ensures accepted asked weighs
