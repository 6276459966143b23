use Rattle.std.proofs.lemmas.Result.{err_from_is_err_and}
use Rattle.stars_core.specs.declared.refusal.TextKind.TheVariants.{Derivation}
use Rattle.stars_core.specs.Judging.{DerivationPasses, StopsAlways}
use Rattle.stars_core.proofs.FaultLaws.{long_stops}
use Rattle.stars_core.proofs.OneFile.{unfetched, judged}
use Rattle.stars_core.proofs.taking.take_derivation.Goals as goal

pub returns-in_err-text-clause-taken : goal.returns-in_err-text-clause-taken
returns-in_err-text-clause-taken g c =
    let p = err_from_is_err_and c.from_residual.result c.from_residual.ensures.1 in
    rw (p.1, p.2) (unfetched (StopsAlways Derivation) (g.S.Shelf.state c.args.shelf.now) (g.S.Shelf.state c.fetch.new.shelf) (Derivation, c.args.name.now)
    (λ bytes line long is earlier. long_stops earlier (Derivation, bytes) line long is) _ c.in_err-text.ensures.fetched)

pub returns-clause-taken : goal.returns-clause-taken
returns-clause-taken g c =
    judged (StopsAlways Derivation) (g.S.Shelf.state c.args.shelf.now) (g.S.Shelf.state c.fetch.new.shelf) (Derivation, c.args.name.now) DerivationPasses
    c.in_ok-text.text c.in_ok-text.ensures.fetched c.judge_derivation.result (rw c.as_slice.ensures.value at c.judge_derivation.ensures)
