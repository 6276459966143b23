use Rattle.std.proofs.Common.{◌≡◌, ◌+◌, ◌≤◌}
use Rattle.std.specs.Prelude.{sum_by, slice_index}
use Rattle.star_model.specs.Numbers.{cut, top}
use Rattle.star_model.specs.Sets.{members}
use Rattle.query_facts.specs.Widths.{width_in}
use Rattle.query_facts.proofs.WidthSums.{width_from}
use Rattle.query_facts.proofs.widths.columns_width.Given as goal

abbrev pub invariant-loop-column : goal.invariant-loop-column
invariant-loop-column l =
    (l.sum ≤ top) × (cut (l.sum + width_from l.columns (slice_index l.cols l.quant) l.column) ≡ cut (sum_by (width_in l.columns) (members (slice_index l.cols l.quant))))
