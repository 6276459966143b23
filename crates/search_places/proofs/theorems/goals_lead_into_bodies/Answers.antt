use Rattle.search_places.proofs.Laws.{to_root, root_is_called, to_alternative, one_bound, member_bound, to_body}
use Rattle.search_places.proofs.theorems.goals_lead_into_bodies.Goals as goal

pub returns : goal.returns
returns c = record { roots = to_root; root_calls = root_is_called; alternatives = to_alternative; names = one_bound; members = member_bound; bodies = to_body }
