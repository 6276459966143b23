use Rattle.std.proofs.Common.{length}
use Rattle.star_model.proofs.costs.+find_formula.Given as goal

abbrev pub decreases-find_formula : goal.decreases-find_formula
decreases-find_formula l = length l.entries.now
