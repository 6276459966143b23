use Rattle.std.proofs.Common.{◌≡◌, ◌+◌, ◌≤◌}
use Rattle.star_model.specs.Numbers.{cut, top}
use Rattle.star_model.specs.Operators.{width_of}
use Rattle.query_facts.proofs.WidthSums.{widths_from}
use Rattle.query_facts.proofs.widths.width.Given as goal

abbrev pub invariant-loop-quant : goal.invariant-loop-quant
invariant-loop-quant l = (l.sum ≤ top) × (cut (l.sum + widths_from l.query l.cols l.quant) ≡ width_of l.query l.cols)
