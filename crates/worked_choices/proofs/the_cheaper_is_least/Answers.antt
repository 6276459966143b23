use Rattle.worked_choices.proofs.Choices.{read_is_least, stored_is_not_least}
use Rattle.worked_choices.proofs.the_cheaper_is_least.Goals as goal

pub returns-clause-cheaper : goal.returns-clause-cheaper
returns-clause-cheaper c = read_is_least

pub returns-clause-dearer : goal.returns-clause-dearer
returns-clause-dearer c = stored_is_not_least
