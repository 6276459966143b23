use Rattle.std.proofs.lemmas.Result.{err_from_is_err_and}
use Rattle.stars_core.specs.declared.refusal.TextKind.TheVariants.{Query}
use Rattle.stars_core.specs.Judging.{QueryPasses, StopsOver}
use Rattle.stars_core.proofs.FaultLaws.{long_stops}
use Rattle.stars_core.proofs.OneFile.{unfetched, judged}
use Rattle.stars_core.proofs.taking.take_query.Goals as goal

pub returns-in_err-text-clause-taken : goal.returns-in_err-text-clause-taken
returns-in_err-text-clause-taken g c =
    let p = err_from_is_err_and c.from_residual.result c.from_residual.ensures.1 in
    rw (p.1, p.2) (unfetched (StopsOver c.args.catalogue.now) (g.S.Shelf.state c.args.shelf.now) (g.S.Shelf.state c.fetch.new.shelf) (Query, c.args.name.now)
    (λ bytes line long is earlier over. long_stops earlier (Query, bytes) line long is) _ c.in_err-text.ensures.fetched)

pub returns-clause-taken : goal.returns-clause-taken
returns-clause-taken g c =
    judged (StopsOver c.args.catalogue.now) (g.S.Shelf.state c.args.shelf.now) (g.S.Shelf.state c.fetch.new.shelf) (Query, c.args.name.now) (QueryPasses c.args.catalogue.now)
    c.in_ok-text.text c.in_ok-text.ensures.fetched c.judge_query.result (rw c.as_slice.ensures.value at c.judge_query.ensures)
