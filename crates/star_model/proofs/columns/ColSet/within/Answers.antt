use Rattle.std.proofs.Common.{◌∙◌, sym, arith}
use Rattle.star_model.proofs.ColumnLaws.{all_within, one_outside}
use Rattle.star_model.proofs.columns.ColSet.within.Goals as goal

pub returns-then-not-is_part : goal.returns-then-not-is_part
returns-then-not-is_part c =
    one_outside c.args.self.now c.args.other.now c.loop-n.n c.loop-n-test.true (rw (c.self.view_is, c.other.view_is) at (sym c.is_part.ensures ∙ c.if-not-is_part.true))

pub returns : goal.returns
returns c = all_within c.args.self.now c.args.other.now (λ k l. c.loop-n.invariant k (omega arith))
