-- The workload of a seed and a size, and which sizes have one.
use Rattle.std.specs.Prelude.{◌≡◌, ◌≤◌, ℕ, map, Result, Ok, Err}
use Rattle.workload_gen.specs.declared.workload.Workload.{Workload}
use Rattle.workload_gen.specs.declared.fault.GenFault.{GenFault}
use Rattle.workload_gen.specs.declared.fault.GenFault.TheVariants.{Size, Memory}
use Rattle.workload_gen.specs.Tables.{drawn_tables}
use Rattle.workload_gen.specs.CatalogueText.{catalogue_text}
use Rattle.workload_gen.specs.QueryText.{query_text}
use Rattle.workload_gen.specs.RulesText.{rules_text}
use Rattle.workload_gen.specs.Records.{records_of}

-- how many tables a workload may have
abbrev pub IsSize : ℕ → Type 0
IsSize size = (1 ≤ size) × (size ≤ 8)

abbrev pub workload : ℕ → ℕ → Workload
workload seed size = record {
  rules = rules_text;
  catalogue = catalogue_text (drawn_tables seed size);
  query = query_text size;
  tables = map records_of (drawn_tables seed size);
}

-- what making the workload of a seed and a size answers
abbrev pub Makes : ℕ → ℕ → Result Workload GenFault → Type 0
Makes seed size (Ok made) = IsSize size × (made ≡ workload seed size)
Makes seed size (Err Size) = IsSize size → ⊥
Makes seed size (Err Memory) = IsSize size
