use Rattle.stars_core.proofs.Verifying.{is_verified, is_denied}
use Rattle.stars_core.proofs.verify.verify_query.Goals as goal

pub returns-in_ok-verified-in-Ok : goal.returns-in_ok-verified-in-Ok
returns-in_ok-verified-in-Ok c = is_verified c.args.rules.now c.args.query.now c.args.derivation.now c.in-Ok.props _ _ c.in-Ok.ensures.derived c.in_ok-verified-in-Ok.ensures

pub returns-in-Err : goal.returns-in-Err
returns-in-Err c = is_denied c.args.rules.now c.args.query.now c.args.derivation.now c.in-Err.invalid.node _ c.in-Err.ensures.invalid c.denied.ensures
