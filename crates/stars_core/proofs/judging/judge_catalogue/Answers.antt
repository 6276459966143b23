use Rattle.stars_core.proofs.FaultLaws.{misread_catalogue_refuses}
use Rattle.stars_core.proofs.judging.judge_catalogue.Goals as goal

pub returns-in-Err : goal.returns-in-Err
returns-in-Err c = misread_catalogue_refuses c.args.bytes.now c.in_ok-check_size.ensures c.in-Err.fault c.in-Err.ensures _ c.misread_catalogue.ensures
