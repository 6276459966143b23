use Rattle.std.proofs.Common.{◌≡◌, ℕ, ◌<◌, length}
use Rattle.star_model.specs.Answers.{position_of}
use Rattle.listed_rows.specs.Environments.{at}
use Rattle.row_printing.proofs.rows.whole.Given as goal

abbrev pub invariant-loop-quant : goal.invariant-loop-quant
invariant-loop-quant l = record {
  long : length l.env ≡ 12;
  laid : (k : ℕ) → k < l.quant → at l.env k ≡ position_of l.row k;
}
