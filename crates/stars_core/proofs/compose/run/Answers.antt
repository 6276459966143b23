use Rattle.std.proofs.lemmas.Result.{err_from_is_err_and}
use Rattle.std.proofs.Common.{[], inl}
use Rattle.stars_core.specs.declared.command.Command.TheVariants.{Run}
use Rattle.stars_core.proofs.RunEnds.{run_ran, run_few, run_goes, three_goes}
use Rattle.stars_core.proofs.compose.run.Goals as goal

pub returns-in_err-case-clause-goes : goal.returns-in_err-case-clause-goes
returns-in_err-case-clause-goes g c = three_goes _ _ c.in_err-case.ensures.goes

pub returns-in_err-case-clause-few : goal.returns-in_err-case-clause-few
returns-in_err-case-clause-few g c = inl c.in_err-case.ensures.goes.calls.bound

pub returns-in_err-case-clause-ran : goal.returns-in_err-case-clause-ran
returns-in_err-case-clause-ran g c =
    let p = err_from_is_err_and c.from_residual.result c.from_residual.ensures.1 in rw (p.1, p.2) (c.in_err-case.ensures.taken Run [])

pub run_case-requires : goal.run_case-requires
run_case-requires g c = c.in_ok-case.ensures.taken.4.formed

pub returns-clause-goes : goal.returns-clause-goes
returns-clause-goes g c =
    let t = c.in_ok-case.ensures.taken in
    run_goes (g.S.Shelf.state c.args.shelf.now) (g.S.Shelf.state c.take_case.new.shelf) (g.S.Shelf.state c.run_case.new.shelf)
    c.args.rules.now c.args.catalogue.now c.args.query.now t.0 t.1 t.2 c.in_ok-case.case.rules c.in_ok-case.case.query t.3 t.4 c.run_case.ensures.goes

pub returns-clause-few : goal.returns-clause-few
returns-clause-few g c =
    let t = c.in_ok-case.ensures.taken in
    run_few (g.S.Shelf.state c.args.shelf.now) (g.S.Shelf.state c.take_case.new.shelf) (g.S.Shelf.state c.run_case.new.shelf)
    c.args.rules.now c.args.catalogue.now c.args.query.now t.0 t.1 t.2 c.in_ok-case.case.rules c.in_ok-case.case.query t.3 t.4
    c.run_case.ensures.goes c.run_case.ensures.few

pub returns-clause-ran : goal.returns-clause-ran
returns-clause-ran g c =
    let t = c.in_ok-case.ensures.taken in
    run_ran (g.S.Shelf.state c.args.shelf.now) (g.S.Shelf.state c.take_case.new.shelf) (g.S.Shelf.state c.run_case.new.shelf)
    c.args.rules.now c.args.catalogue.now c.args.query.now t.0 t.1 t.2 c.in_ok-case.case.rules c.in_ok-case.case.query t.3 t.4
    c.run_case.result c.run_case.ensures.ran
