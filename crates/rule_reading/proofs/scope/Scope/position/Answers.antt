use Rattle.std.proofs.Common.{rules, tests, ap, ◌∙◌}
use Rattle.std.proofs.lemmas.Iterator.{YieldsList-from_slice, YieldsList-from_map_by}
use Rattle.std.proofs.lemmas.Iterator.Consumers.{YieldsList-from_chain, YieldsList-at}
use Rattle.std.proofs.lemmas.Iterator.Search.{position_from_yields_List}
use Rattle.star_model.specs.Names.{place_of}
use Rattle.star_model.specs.Vectors.{same_numbers}
use Rattle.rule_reading.proofs.Places.{found-place}
use Rattle.rule_reading.proofs.scope.Scope.position.Goals as goal

pub returns : goal.returns
returns c =
    found-place c.args.name.now _ c.position.result
    (position_from_yields_List (same_numbers c.args.name.now) _ _ c.position.result c.position.ensures.ran
    (YieldsList-from_chain (YieldsList-at c.chain.ensures.first (YieldsList-from_map_by _ (λ r. r.now) (λ p. p.name) (YieldsList-from_slice c.self.inside.params.now (cc)) c.map-params.ensures.closure (λ x r q k. search rules)))
    (YieldsList-at c.chain.ensures.second (YieldsList-from_map_by _ (λ r. r.now) (λ f. f.name) (YieldsList-from_slice c.self.inside.ranges.now (cc)) c.map-ranges.ensures.closure (λ x r q k. search rules)))
    c.chain.ensures.first_done c.chain.ensures.second_done)
    (λ x b q k. search (rules, tests)))
    ∙ ap (λ scope. place_of c.args.name.now scope.names) c.self.view_is
