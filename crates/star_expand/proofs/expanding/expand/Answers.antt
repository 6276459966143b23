use Rattle.search_places.proofs.Laws.{references_none, glued_none}
use Rattle.star_expand.proofs.expanding.expand.Goals as goal

pub expand_goal-requires-clause-shared : goal.expand_goal-requires-clause-shared
expand_goal-requires-clause-shared c = record { references = references_none _ _ _ c.new.ensures.references; glued = glued_none _ _ _ c.new.ensures.glued }
