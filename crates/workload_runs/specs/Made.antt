-- What was made for a seed and a size.
use Rattle.std.specs.Prelude.{◌≡◌, ℕ}
use Rattle.workload_gen.specs.declared.workload.Workload.{Workload}
use Rattle.workload_gen.specs.Workloads.{IsSize, workload}

pub record IsMade (made : Workload) : Type 0 where
  pub seed : ℕ
  pub size : ℕ
  pub is_size : IsSize size
  pub are : made ≡ workload seed size
