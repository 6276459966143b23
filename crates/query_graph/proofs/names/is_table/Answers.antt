use Rattle.std.proofs.Common.{is_some, map, ap, ◌∙◌}
use Rattle.query_graph.proofs.Lists.{is_some-place_of}
use Rattle.query_graph.proofs.names.is_table.Goals as goal

pub returns : goal.returns
returns c = c.is_some.ensures ∙ ap is_some c.table_place.ensures.place ∙ is_some-place_of c.args.name.now (map (λ t. t.name) c.args.catalogue.now.tables)
