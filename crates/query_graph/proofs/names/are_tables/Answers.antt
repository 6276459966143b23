use Rattle.std.proofs.Common.{rules, tests, sym, ◌∙◌}
use Rattle.std.proofs.lemmas.Iterator.{YieldsList-from_slice}
use Rattle.std.proofs.lemmas.Iterator.Search.{all_from_yields_List}
use Rattle.std.proofs.lemmas.List.Folds.{list_all-map}
use Rattle.query_graph.specs.Words.{said_item}
use Rattle.query_graph.specs.Faults.{is_table}
use Rattle.query_graph.proofs.names.are_tables.Goals as goal

pub returns : goal.returns
returns c =
    all_from_yields_List (λ x. is_table c.args.catalogue.now x.table) _ _ c.all.result c.all.ensures.ran (YieldsList-from_slice _ c.iter.ensures.rest) (λ x b q k. search (rules, tests))
    ∙ sym (list_all-map (λ i. is_table c.args.catalogue.now i.table) said_item c.args.items.now)
