use Rattle.std.proofs.Common.{rules, tests, map, ap, ◌∙◌}
use Rattle.std.proofs.lemmas.Iterator.{YieldsList-from_slice}
use Rattle.std.proofs.lemmas.Iterator.Search.{position_from_yields_List}
use Rattle.star_model.specs.Vectors.{same_numbers}
use Rattle.star_model.specs.Names.{place_of}
use Rattle.query_graph.proofs.Places.{found-place}
use Rattle.query_graph.proofs.lookup.column_place.Goals as goal

pub returns-clause-place : goal.returns-clause-place
returns-clause-place c =
    found-place (λ x. x.name) c.args.name.now c.as_slice.result.now c.position.result
    (position_from_yields_List (λ x. same_numbers c.args.name.now x.name) _ _ c.position.result c.position.ensures.ran (YieldsList-from_slice _ c.iter.ensures.rest) (λ x b q k. search (rules, tests)))
    ∙ ap (λ xs. place_of c.args.name.now (map (λ x. x.name) xs)) c.as_slice.ensures
