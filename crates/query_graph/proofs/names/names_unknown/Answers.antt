use Rattle.std.proofs.Common.{not, ap, ◌∙◌}
use Rattle.query_graph.specs.Words.{said}
use Rattle.query_graph.proofs.UnknownNames.{finds_names-is}
use Rattle.query_graph.proofs.names.names_unknown.Goals as goal

pub returns : goal.returns
returns c =
    ap not (c.finds_names-known.ensures ∙ finds_names-is c.args.catalogue.now c.in_ok-quantifiers.quantifiers (said c.args.words.now) (rw c.as_slice.ensures at c.in_ok-quantifiers.ensures))
