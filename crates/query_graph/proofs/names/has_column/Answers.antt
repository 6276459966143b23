use Rattle.std.proofs.Common.{is_some, ap, ◌∙◌}
use Rattle.query_graph.specs.Faults.{column_names}
use Rattle.query_graph.proofs.Lists.{is_some-place_of}
use Rattle.query_graph.proofs.names.has_column.Goals as goal

pub returns : goal.returns
returns c = c.is_some.ensures ∙ ap is_some c.column_place.ensures.place ∙ is_some-place_of c.args.name.now (column_names c.args.table.now)
