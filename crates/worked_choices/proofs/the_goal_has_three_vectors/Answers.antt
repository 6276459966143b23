use Rattle.worked_choices.proofs.Choices.{is_read, is_stored, is_stored_again}
use Rattle.worked_choices.proofs.Derived.{no_other}
use Rattle.worked_choices.proofs.the_goal_has_three_vectors.Goals as goal

pub returns-clause-read : goal.returns-clause-read
returns-clause-read c = is_read

pub returns-clause-stored : goal.returns-clause-stored
returns-clause-stored c = is_stored

pub returns-clause-again : goal.returns-clause-again
returns-clause-again c = is_stored_again

pub returns-clause-no_other : goal.returns-clause-no_other
returns-clause-no_other c = no_other
