use Rattle.worked_plans.proofs.WordAnswers.{sorted_rows, not_exchanged, none_twice, none_missing}
use Rattle.worked_plans.proofs.answers.rows_of_two_tables.Goals as goal

pub returns : goal.returns
returns c = record { sorted = sorted_rows; exchanged = not_exchanged; twice = none_twice; missing = none_missing }
