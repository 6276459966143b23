use Rattle.stars_core.proofs.FaultLaws.{check_refuses}
use Rattle.stars_core.proofs.judging.check.Goals as goal

pub returns-in-Err : goal.returns-in-Err
returns-in-Err c = check_refuses c.args.rules c.in-Err.fault c.in-Err.ensures _ c.refused_rules.ensures
