use Rattle.cost_formula.proofs.Laws.{canonical_cost, canonical_select, formed_formula}
use Rattle.cost_formula.proofs.theorems.fewest_brackets_spell.Goals as goal

pub returns : goal.returns
returns c = record { spelled = canonical_cost; selectivities = canonical_select; formed = formed_formula }
