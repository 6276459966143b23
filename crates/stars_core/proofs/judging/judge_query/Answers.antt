use Rattle.stars_core.proofs.FaultLaws.{misread_query_refuses}
use Rattle.stars_core.proofs.judging.judge_query.Goals as goal

pub returns-in-Err : goal.returns-in-Err
returns-in-Err c = misread_query_refuses c.args.catalogue.now c.args.bytes.now c.in_ok-check_size.ensures c.in-Err.fault c.in-Err.ensures _ c.misread_query.ensures
