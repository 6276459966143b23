use Rattle.stars_core.proofs.FaultLaws.{misread_derivation_refuses}
use Rattle.stars_core.proofs.judging.judge_derivation.Goals as goal

pub returns-in-Err : goal.returns-in-Err
returns-in-Err c = misread_derivation_refuses c.args.bytes.now c.in_ok-check_size.ensures c.in-Err.fault c.in-Err.ensures _ c.misread_derivation.ensures
