use Rattle.rule_reading.proofs.plans.+plan.Given as goal

abbrev pub decreases-plan : goal.decreases-plan
decreases-plan l = l.depth
