-- A function value that reads the formulas inside a formula.
use Rattle.std.specs.Prelude.{ℕ, Result}
use Rattle.std.specs.declared.alloc.Global.{Global}
use denote.Ref.{MutBor}
use Rattle.star_model.specs.declared.formula.Formula.{Formula}
use Rattle.cost_formula.specs.FormulaReading.{whole_at}
use Rattle.cost_formula.specs.declared.cursor.Stop.{Stop}
use Rattle.cost_formula.specs.declared.cursor.WordCursor.{WordCursor}
use Rattle.cost_formula.specs.Reading.{Reads}

-- it may be called, and reads where so many formulas may be open inside one another
pub record Nests (depth : ℕ) (pre : Global → MutBor WordCursor → ℕ → Type 0)
    (post : Global → MutBor WordCursor → ℕ → Result Formula Stop → MutBor WordCursor → Type 0) : Type 0 where
  pub callable : (alloc : Global) (old : MutBor WordCursor) → pre alloc old depth
  pub reads : (alloc : Global) (old new : MutBor WordCursor) (r : Result Formula Stop) → post alloc old depth r new → Reads (whole_at depth old.now.left.now) r new.now.left.now
