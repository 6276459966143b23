use Rattle.stars_core.proofs.FaultLaws.{reading_refuses}
use Rattle.stars_core.proofs.judging.read.Goals as goal

pub returns-in-Err : goal.returns-in-Err
returns-in-Err c = reading_refuses c.args.bytes.now c.in-Err.fault c.in-Err.ensures _ c.refused_rules.ensures
