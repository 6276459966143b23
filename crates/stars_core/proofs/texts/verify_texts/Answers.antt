use Rattle.std.proofs.lemmas.Result.{err_from_is_err_and}
use Rattle.std.proofs.Common.{[], ◌∷◌}
use Rattle.stars_core.specs.declared.command.Command.TheVariants.{Verify}
use Rattle.stars_core.specs.declared.refusal.TextKind.TheVariants.{Derivation}
use Rattle.stars_core.proofs.Cases.{derivation_not, four_pass}
use Rattle.stars_core.proofs.Verifying.{small, verified_texts}
use Rattle.stars_core.proofs.texts.verify_texts.Goals as goal

pub returns-in_err-case : goal.returns-in_err-case
returns-in_err-case c =
    let p = err_from_is_err_and c.from_residual.result c.from_residual.ensures.1 in
    rw (p.1, p.2) (c.in_err-case.ensures Verify ((Derivation, c.args.derivation.now) ∷ []))

pub returns-in_err-derivation : goal.returns-in_err-derivation
returns-in_err-derivation c =
    let p = err_from_is_err_and c.from_residual-in_err-derivation.result c.from_residual-in_err-derivation.ensures.1 in
    rw (p.1, p.2) (derivation_not Verify c.args.rules.now c.args.catalogue.now c.args.query.now c.args.derivation.now _ c.in_ok-case.ensures.0 c.in_err-derivation.ensures)

pub verify_query-requires-clause-query : goal.verify_query-requires-clause-query
verify_query-requires-clause-query c = c.in_ok-case.ensures.1.formed

pub verify_query-requires-clause-size : goal.verify_query-requires-clause-size
verify_query-requires-clause-size c = small c.args.derivation.now c.in_ok-derivation.derivation c.in_ok-derivation.ensures

pub returns : goal.returns
returns c =
    let t = c.in_ok-case.ensures in
    verified_texts c.args.rules.now c.args.catalogue.now c.args.query.now c.args.derivation.now c.in_ok-case.case.rules c.in_ok-case.case.query
    c.in_ok-derivation.derivation t.1 c.in_ok-derivation.ensures.read.spells
    (four_pass c.args.rules.now c.args.catalogue.now c.args.query.now c.args.derivation.now c.in_ok-derivation.derivation t.0 c.in_ok-derivation.ensures)
    c.verify_query.result c.verify_query.ensures
