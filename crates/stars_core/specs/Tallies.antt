-- The line that tells what the run of a workload comes to.
use Rattle.std.specs.Prelude.{◌≡◌, ℕ, List, [], ◌∷◌, ◌++◌, codes}
use Rattle.std.specs.Fmt.{decimal}
use Rattle.star_model.specs.declared.rules.RuleFile.{RuleFile}
use Rattle.star_model.specs.declared.query.Query.{Query as QueryTree}
use Rattle.workload_gen.specs.Workloads.{workload}
use Rattle.workload_runs.specs.Tallies.{IsTally}
use Rattle.workload_runs.specs.declared.tally.Tally.{Tally}
use Rattle.stars_core.specs.declared.status.Ending.{Ending}
use Rattle.stars_core.specs.declared.status.Ending.TheVariants.{Done, NoPlan}
use Rattle.stars_core.specs.Plan.{HasNoPlan, no_plan}

-- the seed and the size
abbrev pub which_workload : ℕ → ℕ → List ℕ
which_workload seed size = codes "gen seed " ++ decimal seed ++ codes " size " ++ decimal size

-- the goals that the query asks for, and the vectors on their frontiers
abbrev pub searched : Tally → List ℕ
searched tally = codes " goals " ++ decimal tally.goals ++ codes " kept " ++ decimal tally.kept

-- the cost of a cheapest plan, and the number of the query's rows
abbrev pub found : Tally → List ℕ
found tally = codes " cost " ++ decimal tally.cost ++ codes " rows " ++ decimal tally.rows

abbrev pub tally_line : ℕ → ℕ → Tally → List ℕ
tally_line seed size tally = which_workload seed size ++ searched tally ++ found tally ++ 10 ∷ []

-- how the run ends, and the line of each end
abbrev pub TallyText : ℕ → ℕ → RuleFile → QueryTree → Ending → List ℕ → Type 0
TallyText seed size rules query Done text =
    (tally : Tally) × IsTally rules query (workload seed size).tables tally × (text ≡ tally_line seed size tally)
TallyText seed size rules query NoPlan text = HasNoPlan rules query × (text ≡ no_plan)
