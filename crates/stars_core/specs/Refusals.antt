-- Why a command has no output, where what it stands on has none.
use Rattle.table_taking.specs.declared.stop.Stop.{Stop}
use Rattle.table_taking.specs.declared.stop.Stop.TheVariants as stops
use Rattle.stars_core.specs.declared.refusal.Refusal.{Refusal}
use Rattle.workload_gen.specs.declared.fault.GenFault.{GenFault}
use Rattle.workload_gen.specs.declared.fault.GenFault.TheVariants as faults
use Rattle.stars_core.specs.declared.refusal.Refusal.TheVariants.{Usage, Unread, Table, Memory}

-- a table isn't taken
abbrev pub refusal_of : Stop → Refusal
refusal_of (stops.Unread line) = Unread line
refusal_of (stops.Refused line) = Table line
refusal_of stops.Memory = Memory

-- a workload isn't made
abbrev pub refusal_by : GenFault → Refusal
refusal_by faults.Size = Usage
refusal_by faults.Memory = Memory
