-- The vector of an applicable operator.
use Rattle.std.proofs.Common.{◌≡◌, true, ◌&&◌, List, sym, ◌∙◌}
use Rattle.std.specs.Prelude.{None, if◌then◌else◌}
use Rattle.star_model.specs.Operators.{step, may_apply, each_touches, unpriced, vars_of, price}
use Rattle.star_model.specs.declared.query.Query.{Query}
use Rattle.star_model.specs.declared.costs.CostEntry.{CostEntry}
use Rattle.star_model.specs.declared.plans.Props.{Props}
use Rattle.star_model.specs.declared.plans.Op.{Op}

pub step_applicable : (q : Query) (costs : List CostEntry) (o : Op) (ins : List Props) (made : Props) → may_apply q o ins ≡ true → each_touches q o ins ≡ true
    → made ≡ unpriced q o ins → price costs o (vars_of q o ins made) made ≡ step q costs o ins
unfolding step
step_applicable q costs o ins made h k m =
    (λ i. price costs o (vars_of q o ins (m i)) (m i))
    ∙ (λ i. if sym h i && sym k i then price costs o (vars_of q o ins (unpriced q o ins)) (unpriced q o ins) else None)
