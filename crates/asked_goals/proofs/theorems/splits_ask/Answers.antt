use Rattle.asked_goals.proofs.Laws.{one_asks_nothing, split_asks, asks_split, holds_of_one, holds_of_splits}
use Rattle.asked_goals.proofs.theorems.splits_ask.Goals as goal

pub returns-clause-one : goal.returns-clause-one
returns-clause-one c = one_asks_nothing

pub returns-clause-split : goal.returns-clause-split
returns-clause-split c = split_asks

pub returns-clause-several : goal.returns-clause-several
returns-clause-several c = asks_split

pub returns-clause-holds_of_one : goal.returns-clause-holds_of_one
returns-clause-holds_of_one c = holds_of_one

pub returns-clause-holds_of_splits : goal.returns-clause-holds_of_splits
returns-clause-holds_of_splits c = holds_of_splits
