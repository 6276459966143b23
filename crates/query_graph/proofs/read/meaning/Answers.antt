use Rattle.std.proofs.Common.{◌≡◌, None, Some, sym, ◌∙◌}
use Rattle.query_graph.specs.Words.{said}
use Rattle.query_graph.proofs.LimitLaws.{fits}
use Rattle.query_graph.proofs.Meaning.{means_query}
use Rattle.query_graph.proofs.FormedQuery.{few_predicates}
use Rattle.query_graph.proofs.read.meaning.Goals as goal

pub query_of-requires-clause-fits : goal.query_of-requires-clause-fits
query_of-requires-clause-fits c = fits c.args.words.now c.requires.keeps

pub unreachable-requires : goal.unreachable-requires
unreachable-requires c =
    let query = means_query c.args.catalogue.now (said c.args.words.now) c.requires.formed c.requires.known c.requires.once in
    let none : None ≡ Some query.0 = sym c.in-None.is ∙ c.in_ok-query.ensures ∙ query.1 in
    absurd cc

pub returns-clause-few : goal.returns-clause-few
returns-clause-few c = few_predicates c.args.catalogue.now (said c.args.words.now) c.in-Some.query c.requires.formed c.requires.keeps (sym c.in_ok-query.ensures ∙ c.in-Some.is)
