use Rattle.plan_rows.proofs.planned.+planned.Given as goal

abbrev pub decreases-planned : goal.decreases-planned
decreases-planned l = l.height
