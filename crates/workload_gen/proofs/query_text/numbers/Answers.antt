use Rattle.workload_gen.proofs.QueryLaws.{first_of_range}
use Rattle.workload_gen.proofs.query_text.numbers.Goals as goal

pub returns : goal.returns
returns c = first_of_range 1 8 c.args.size c.requires
