-- The run of the workload of a seed and a size.
use Rattle.std.specs.Prelude.{ℕ, Option, Result, Ok, Err}
use Rattle.star_model.specs.declared.query.Query.{Query}
use Rattle.star_model.specs.declared.rules.RuleFile.{RuleFile}
use Rattle.workload_gen.specs.declared.fault.GenFault.{GenFault}
use Rattle.workload_gen.specs.declared.fault.GenFault.TheVariants.{Size, Memory}
use Rattle.workload_gen.specs.declared.workload.Workload.{Workload}
use Rattle.workload_gen.specs.Workloads.{IsSize, workload}
use Rattle.workload_runs.specs.declared.tally.Tally.{Tally}
use Rattle.workload_runs.specs.Cases.{Says}
use Rattle.workload_runs.specs.Tallies.{ComesTo}

-- its texts say rules and a query, and these come to the numbers
pub record RunsTo (made : Workload) (tally : Option Tally) : Type 0 where
  pub rules : RuleFile
  pub query : Query
  pub says : Says made rules query
  pub numbers : ComesTo rules query made.tables tally

-- what the run answers; memory may run out at any seed, where there is a workload of the size
abbrev pub Runs : ℕ → ℕ → Result (Option Tally) GenFault → Type 0
Runs seed size (Ok tally) = IsSize size × RunsTo (workload seed size) tally
Runs seed size (Err Size) = IsSize size → ⊥
Runs seed size (Err Memory) = IsSize size
