use Rattle.shared_sets.proofs.Laws.{kept_for-push_cases, glued_for-push_cases}
use Rattle.shared_sets.proofs.theorems.tables_have_what_was_kept.Goals as goal

pub returns : goal.returns
returns c = record { calls = kept_for-push_cases; requests = glued_for-push_cases }
