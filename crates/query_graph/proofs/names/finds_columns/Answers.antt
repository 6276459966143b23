use Rattle.std.proofs.Common.{rules, tests, sym, ◌∙◌}
use Rattle.std.proofs.lemmas.Iterator.{YieldsList-from_slice}
use Rattle.std.proofs.lemmas.Iterator.Search.{all_from_yields_List}
use Rattle.std.proofs.lemmas.List.Folds.{list_all-map}
use Rattle.query_graph.specs.Words.{said_column}
use Rattle.query_graph.specs.Quantifiers.{finds_column}
use Rattle.query_graph.proofs.names.finds_columns.Goals as goal

pub returns : goal.returns
returns c =
    all_from_yields_List (λ x. finds_column c.args.quantifiers.now c.args.tables.now (said_column x)) _ _ c.all.result c.all.ensures.ran (YieldsList-from_slice _ c.iter.ensures.rest) (λ x b q k. search (rules, tests))
    ∙ sym (list_all-map (finds_column c.args.quantifiers.now c.args.tables.now) said_column c.args.columns.now)
