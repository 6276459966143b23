use Rattle.std.proofs.Common.{◌-◌, arith}
use Rattle.workload_gen.proofs.QueryLaws.{first_of_range}
use Rattle.workload_gen.proofs.query_text.later_numbers.Goals as goal

pub returns : goal.returns
returns c = first_of_range 2 7 (c.args.size - 1) (omega arith)
