-- What the run of a workload answers.
use Rattle.std.specs.Prelude.{ℕ, List, Result, Ok, Err}
use Rattle.star_model.specs.declared.rules.RuleFile.{RuleFile}
use Rattle.star_model.specs.declared.query.Query.{Query as QueryTree}
use Rattle.workload_gen.specs.Workloads.{IsSize, workload}
use Rattle.workload_gen.specs.declared.fault.GenFault.{GenFault}
use Rattle.workload_gen.specs.declared.fault.GenFault.TheVariants.{Size, Memory}
use Rattle.stars_core.specs.declared.answer.Answer.{Answer}
use Rattle.stars_core.specs.declared.status.Ending.{Ending}
use Rattle.stars_core.specs.Saying.{SaysWorkload}
use Rattle.stars_core.specs.Tallies.{TallyText}

-- the texts of the workload say rules and a query, and this is how its run ends, and its line
pub record IsGenerated (seed size : ℕ) (ending : Ending) (text : List ℕ) : Type 0 where
  pub rules : RuleFile
  pub query : QueryTree
  pub says : SaysWorkload (workload seed size) rules query
  pub line : TallyText seed size rules query ending text

-- the answer of a workload's run; memory may be wanting at any seed, where there is a workload of the size
abbrev pub Generated : ℕ → ℕ → Result Answer GenFault → Type 0
Generated seed size (Ok answer) = IsSize size × IsGenerated seed size answer.ending answer.text.items
Generated seed size (Err Size) = IsSize size → ⊥
Generated seed size (Err Memory) = IsSize size
