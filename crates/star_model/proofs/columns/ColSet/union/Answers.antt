use Rattle.std.proofs.Common.{◌∙◌, get_or, arith, length-set}
use Rattle.std.proofs.lemmas.List.Edits.{fill_by_more}
use Rattle.star_model.specs.Sets.{union}
use Rattle.star_model.proofs.ColumnLaws.{united}
use Rattle.star_model.proofs.columns.ColSet.union.Goals as goal

pub loop-n-preserved : goal.loop-n-preserved
unfolding union
loop-n-preserved c = record {
  long = length-set c.loop-n.masks c.loop-n.n _ ∙ c.loop-n.invariant.long;
  below = rw (c.self.view_is, c.other.view_is) (fill_by_more (λ k. union (get_or c.args.self.now k 0) (get_or c.args.other.now k 0)) c.loop-n.masks c.loop-n.n 0 (omega arith) c.loop-n.invariant.below);
}

pub returns : goal.returns
returns c = united c.args.self.now c.args.other.now c.loop-n.masks c.loop-n.invariant.long (λ k l. c.loop-n.invariant.below k (omega arith))
