use Rattle.worked_choices.proofs.Choices.{read_on_frontier, stored_on_frontier, again_is_covered, cheap_is_underived}
use Rattle.worked_choices.proofs.two_are_on_the_frontier.Goals as goal

pub returns-clause-cheaper : goal.returns-clause-cheaper
returns-clause-cheaper c = read_on_frontier

pub returns-clause-dearer : goal.returns-clause-dearer
returns-clause-dearer c = stored_on_frontier

pub returns-clause-covered : goal.returns-clause-covered
returns-clause-covered c = again_is_covered

pub returns-clause-underived : goal.returns-clause-underived
returns-clause-underived c = cheap_is_underived
