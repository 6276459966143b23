use Rattle.shared_sets.proofs.Laws.{value_decides, call_decides, request_decides}
use Rattle.shared_sets.proofs.theorems.tests_tell_equality.Goals as goal

pub returns : goal.returns
returns c = record { values = value_decides; calls = call_decides; requests = request_decides }
