use Rattle.std.proofs.Common.{sym, map}
use Rattle.std.proofs.lemmas.List.{length-map}
use Rattle.lolepop.specs.PlanTrees.{top_vector}
use Rattle.lolepop.proofs.ArityLaws.{step-many}
use Rattle.lolepop.proofs.applying.apply.Goals as goal

pub returns-in_default-clause-vector : goal.returns-in_default-clause-vector
returns-in_default-clause-vector c =
    sym (step-many _ _ _ (map (λ n. top_vector n.value) c.args.inputs.now) (simp length-map c.in_default.len_at_least))
