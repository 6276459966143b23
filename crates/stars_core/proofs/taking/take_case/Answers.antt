use Rattle.std.proofs.lemmas.Result.{err_from_is_err_and}
use Rattle.std.proofs.Common.{◌∷◌}
use Rattle.stars_core.specs.declared.refusal.TextKind.TheVariants.{Catalogue, Query}
use Rattle.stars_core.proofs.Says.{says_case}
use Rattle.stars_core.proofs.Cases.{rules_stop, after_rules, catalogue_stops, after_catalogue, query_stops, after_query}
use Rattle.stars_core.proofs.taking.take_case.Goals as goal

pub returns-in_err-rules-clause-taken : goal.returns-in_err-rules-clause-taken
returns-in_err-rules-clause-taken g c =
    let p = err_from_is_err_and c.from_residual.result c.from_residual.ensures.1 in
    rw (p.1, p.2) (λ command later. rules_stop (g.S.Shelf.state c.args.shelf.now) command (g.S.Shelf.state c.take_rules.new.shelf) c.args.rules.now
    ((Catalogue, c.args.catalogue.now) ∷ (Query, c.args.query.now) ∷ later) _ c.in_err-rules.ensures.goes c.in_err-rules.ensures.taken)

pub returns-in_err-catalogue-clause-taken : goal.returns-in_err-catalogue-clause-taken
returns-in_err-catalogue-clause-taken g c =
    let r = c.in_ok-rules.ensures.taken in
    let first = after_rules (g.S.Shelf.state c.args.shelf.now) (g.S.Shelf.state c.take_rules.new.shelf) c.args.rules.now r.1 c.in_ok-rules.rules
    c.in_ok-rules.ensures.goes r.0 r.2 r.3 in
    let p = err_from_is_err_and c.from_residual-in_err-catalogue.result c.from_residual-in_err-catalogue.ensures.1 in
    rw (p.1, p.2) (λ command later. catalogue_stops (g.S.Shelf.state c.args.shelf.now) (g.S.Shelf.state c.take_rules.new.shelf)
    (g.S.Shelf.state c.take_catalogue.new.shelf) c.in_err-catalogue.ensures.goes c.args.rules.now c.args.catalogue.now r.1 first command
    ((Query, c.args.query.now) ∷ later) _ c.in_err-catalogue.ensures.taken)

pub returns-in_err-query-clause-taken : goal.returns-in_err-query-clause-taken
returns-in_err-query-clause-taken g c =
    let r = c.in_ok-rules.ensures.taken in
    let k = c.in_ok-catalogue.ensures.taken in
    let first = after_rules (g.S.Shelf.state c.args.shelf.now) (g.S.Shelf.state c.take_rules.new.shelf) c.args.rules.now r.1 c.in_ok-rules.rules
    c.in_ok-rules.ensures.goes r.0 r.2 r.3 in
    let second = after_catalogue (g.S.Shelf.state c.args.shelf.now) (g.S.Shelf.state c.take_rules.new.shelf) (g.S.Shelf.state c.take_catalogue.new.shelf)
    c.in_ok-catalogue.ensures.goes c.args.rules.now c.args.catalogue.now r.1 first k.1 c.in_ok-catalogue.catalogue k.0 k.2 k.3 in
    let p = err_from_is_err_and c.from_residual-in_err-query.result c.from_residual-in_err-query.ensures.1 in
    rw (p.1, p.2) (λ command later. query_stops (g.S.Shelf.state c.args.shelf.now) (g.S.Shelf.state c.take_catalogue.new.shelf)
    (g.S.Shelf.state c.take_query.new.shelf) c.in_err-query.ensures.goes c.args.rules.now c.args.catalogue.now c.args.query.now r.1 k.1
    c.in_ok-catalogue.catalogue k.3 second command later _ c.in_err-query.ensures.taken)

pub returns-clause-taken : goal.returns-clause-taken
returns-clause-taken g c =
    let r = c.in_ok-rules.ensures.taken in
    let k = c.in_ok-catalogue.ensures.taken in
    let q = c.in_ok-query.ensures.taken in
    let first = after_rules (g.S.Shelf.state c.args.shelf.now) (g.S.Shelf.state c.take_rules.new.shelf) c.args.rules.now r.1 c.in_ok-rules.rules
    c.in_ok-rules.ensures.goes r.0 r.2 r.3 in
    let second = after_catalogue (g.S.Shelf.state c.args.shelf.now) (g.S.Shelf.state c.take_rules.new.shelf) (g.S.Shelf.state c.take_catalogue.new.shelf)
    c.in_ok-catalogue.ensures.goes c.args.rules.now c.args.catalogue.now r.1 first k.1 c.in_ok-catalogue.catalogue k.0 k.2 k.3 in
    let third = after_query (g.S.Shelf.state c.args.shelf.now) (g.S.Shelf.state c.take_catalogue.new.shelf) (g.S.Shelf.state c.take_query.new.shelf)
    c.in_ok-query.ensures.goes c.args.rules.now c.args.catalogue.now c.args.query.now r.1 k.1 c.in_ok-catalogue.catalogue k.3 second
    q.1 c.in_ok-query.query q.0 q.2 q.3 in
    (r.1, k.1, q.1, third, rw (c.new.ensures.rules, c.new.ensures.query) (says_case r.1 k.1 q.1 c.in_ok-rules.rules c.in_ok-catalogue.catalogue c.in_ok-query.query r.3 k.3 q.3))
