use Rattle.std.proofs.lemmas.Result.{err_from_is_err_and}
use Rattle.stars_core.specs.declared.refusal.TextKind.TheVariants.{Catalogue}
use Rattle.stars_core.specs.Judging.{CataloguePasses, StopsAlways}
use Rattle.stars_core.proofs.FaultLaws.{long_stops}
use Rattle.stars_core.proofs.OneFile.{unfetched, judged}
use Rattle.stars_core.proofs.taking.take_catalogue.Goals as goal

pub returns-in_err-text-clause-taken : goal.returns-in_err-text-clause-taken
returns-in_err-text-clause-taken g c =
    let p = err_from_is_err_and c.from_residual.result c.from_residual.ensures.1 in
    rw (p.1, p.2) (unfetched (StopsAlways Catalogue) (g.S.Shelf.state c.args.shelf.now) (g.S.Shelf.state c.fetch.new.shelf) (Catalogue, c.args.name.now)
    (λ bytes line long is earlier. long_stops earlier (Catalogue, bytes) line long is) _ c.in_err-text.ensures.fetched)

pub returns-clause-taken : goal.returns-clause-taken
returns-clause-taken g c =
    judged (StopsAlways Catalogue) (g.S.Shelf.state c.args.shelf.now) (g.S.Shelf.state c.fetch.new.shelf) (Catalogue, c.args.name.now) CataloguePasses
    c.in_ok-text.text c.in_ok-text.ensures.fetched c.judge_catalogue.result (rw c.as_slice.ensures.value at c.judge_catalogue.ensures)
