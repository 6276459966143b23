use Rattle.std.proofs.lemmas.Result.{err_from_is_err_and}
use Rattle.std.proofs.Common.{[], ◌∷◌}
use Rattle.stars_core.specs.declared.command.Command.TheVariants.{Verify}
use Rattle.stars_core.specs.declared.refusal.TextKind.TheVariants.{Derivation}
use Rattle.stars_core.proofs.Cases.{derivation_stops, after_derivation}
use Rattle.stars_core.proofs.Verifying.{small, verified_ran, denied_ran}
use Rattle.stars_core.proofs.compose.verify.Goals as goal

pub returns-in_err-case-clause-ran : goal.returns-in_err-case-clause-ran
returns-in_err-case-clause-ran g c =
    let p = err_from_is_err_and c.from_residual.result c.from_residual.ensures.1 in
    rw (p.1, p.2) (c.in_err-case.ensures.taken Verify ((Derivation, c.args.derivation.now) ∷ []))

pub returns-in_err-derivation-clause-ran : goal.returns-in_err-derivation-clause-ran
returns-in_err-derivation-clause-ran g c =
    let t = c.in_ok-case.ensures.taken in
    let p = err_from_is_err_and c.from_residual-in_err-derivation.result c.from_residual-in_err-derivation.ensures.1 in
    rw (p.1, p.2) (derivation_stops (g.S.Shelf.state c.args.shelf.now) (g.S.Shelf.state c.take_case.new.shelf) (g.S.Shelf.state c.take_derivation.new.shelf)
    c.in_err-derivation.ensures.goes c.args.rules.now c.args.catalogue.now c.args.query.now c.args.derivation.now t.0 t.1 t.2 t.3 Verify _
    c.in_err-derivation.ensures.taken)

pub verify_query-requires-clause-query : goal.verify_query-requires-clause-query
verify_query-requires-clause-query g c = c.in_ok-case.ensures.taken.4.formed

pub verify_query-requires-clause-size : goal.verify_query-requires-clause-size
verify_query-requires-clause-size g c = let d = c.in_ok-derivation.ensures.taken in small d.1 c.in_ok-derivation.derivation d.3

pub returns-in_err-answer-clause-ran : goal.returns-in_err-answer-clause-ran
returns-in_err-answer-clause-ran g c =
    let t = c.in_ok-case.ensures.taken in
    let d = c.in_ok-derivation.ensures.taken in
    let along = after_derivation (g.S.Shelf.state c.args.shelf.now) (g.S.Shelf.state c.take_case.new.shelf) (g.S.Shelf.state c.take_derivation.new.shelf)
    c.in_ok-derivation.ensures.goes c.args.rules.now c.args.catalogue.now c.args.query.now c.args.derivation.now t.0 t.1 t.2 t.3
    d.1 c.in_ok-derivation.derivation d.0 d.2 d.3 in
    let p = err_from_is_err_and c.from_residual-in_err-answer.result c.from_residual-in_err-answer.ensures.1 in
    rw (p.1, p.2) (denied_ran t.0 t.1 t.2 d.1 c.in_ok-case.case.rules c.in_ok-case.case.query c.in_ok-derivation.derivation t.4 d.3.read.spells
    (g.S.Shelf.state c.args.shelf.now) (g.S.Shelf.state c.take_derivation.new.shelf) c.args.rules.now c.args.catalogue.now c.args.query.now c.args.derivation.now
    along _ c.in_err-answer.ensures)

pub returns-clause-ran : goal.returns-clause-ran
returns-clause-ran g c =
    let t = c.in_ok-case.ensures.taken in
    let d = c.in_ok-derivation.ensures.taken in
    let along = after_derivation (g.S.Shelf.state c.args.shelf.now) (g.S.Shelf.state c.take_case.new.shelf) (g.S.Shelf.state c.take_derivation.new.shelf)
    c.in_ok-derivation.ensures.goes c.args.rules.now c.args.catalogue.now c.args.query.now c.args.derivation.now t.0 t.1 t.2 t.3
    d.1 c.in_ok-derivation.derivation d.0 d.2 d.3 in
    verified_ran t.0 t.1 t.2 d.1 c.in_ok-case.case.rules c.in_ok-case.case.query c.in_ok-derivation.derivation t.4 d.3.read.spells
    (g.S.Shelf.state c.args.shelf.now) (g.S.Shelf.state c.take_derivation.new.shelf) c.args.rules.now c.args.catalogue.now c.args.query.now c.args.derivation.now
    along c.in_ok-answer.answer c.of.result c.of.ensures.ending c.of.ensures.pieces c.in_ok-answer.ensures
