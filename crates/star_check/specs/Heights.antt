-- The height of the STAR of a name, and bodies that refer to lower STARs only.
use Rattle.std.specs.Prelude.{ℕ, Bool, nat_lt, List, length}
use Rattle.std.specs.List.{list_all}
use Rattle.star_model.specs.Accepted.{height_within, references_in}
use Rattle.star_model.specs.declared.rules.PlanExpr.{PlanExpr}
use Rattle.star_model.specs.declared.rules.RuleFile.{RuleFile}

abbrev pub height_named : RuleFile → List ℕ → ℕ
height_named rules name = height_within rules (length rules.stars) name

-- whether each STAR to which the body refers is lower than this
abbrev pub refers_below : RuleFile → ℕ → PlanExpr → Bool
refers_below rules height body = list_all (λ r. nat_lt (height_named rules r.0) height) (references_in body)
