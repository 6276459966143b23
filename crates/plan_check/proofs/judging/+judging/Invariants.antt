use Rattle.std.proofs.Common.{◌+◌, ◌*◌}
use Rattle.star_model.specs.Judging.{node_count}
use Rattle.plan_check.proofs.judging.+judging.Given as goal

-- Each node has steps of its own, and those of the nodes below it.

abbrev pub decreases-judge_expression : goal.decreases-judge_expression
decreases-judge_expression l = 4 * node_count l.deriv.now + 3

abbrev pub decreases-judge_unary : goal.decreases-judge_unary
decreases-judge_unary l = 4 * node_count l.input.now + 4

abbrev pub decreases-judge_binary : goal.decreases-judge_binary
decreases-judge_binary l = 4 * (node_count l.left.now + node_count l.right.now) + 4

abbrev pub decreases-judge_reference : goal.decreases-judge_reference
decreases-judge_reference l = 4 * node_count l.body.now + 5

abbrev pub decreases-judge_body : goal.decreases-judge_body
decreases-judge_body l = 4 * node_count l.body.now + 4

abbrev pub decreases-judge_call : goal.decreases-judge_call
decreases-judge_call l = 4 * node_count l.deriv.now + 1

abbrev pub decreases-judge_goal : goal.decreases-judge_goal
decreases-judge_goal l = 4 * node_count l.deriv.now + 2

abbrev pub decreases-judge_chain : goal.decreases-judge_chain
decreases-judge_chain l = 4 * node_count l.goal.now + 3

abbrev pub decreases-judge_glue : goal.decreases-judge_glue
decreases-judge_glue l = 4 * node_count l.goal.now + 4
