use Rattle.std.proofs.lemmas.Result.{err_from_is_err_and}
use Rattle.stars_core.specs.declared.refusal.TextKind.TheVariants.{Rules}
use Rattle.stars_core.specs.Judging.{RulesPass, StopsAlways}
use Rattle.stars_core.proofs.FaultLaws.{long_stops}
use Rattle.stars_core.proofs.OneFile.{unfetched, judged}
use Rattle.stars_core.proofs.taking.take_rules.Goals as goal

pub returns-in_err-text-clause-taken : goal.returns-in_err-text-clause-taken
returns-in_err-text-clause-taken g c =
    let p = err_from_is_err_and c.from_residual.result c.from_residual.ensures.1 in
    rw (p.1, p.2) (unfetched (StopsAlways Rules) (g.S.Shelf.state c.args.shelf.now) (g.S.Shelf.state c.fetch.new.shelf) (Rules, c.args.name.now)
    (λ bytes line long is earlier. long_stops earlier (Rules, bytes) line long is) _ c.in_err-text.ensures.fetched)

pub returns-clause-taken : goal.returns-clause-taken
returns-clause-taken g c =
    judged (StopsAlways Rules) (g.S.Shelf.state c.args.shelf.now) (g.S.Shelf.state c.fetch.new.shelf) (Rules, c.args.name.now) RulesPass
    c.in_ok-text.text c.in_ok-text.ensures.fetched c.judge_rules.result (rw c.as_slice.ensures.value at c.judge_rules.ensures)
