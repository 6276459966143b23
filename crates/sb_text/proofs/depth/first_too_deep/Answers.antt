use Rattle.std.proofs.Common.{arith, ◌∙◌, ap, length}
use Rattle.std.specs.List.{position_from}
use Rattle.sb_text.specs.Statements.{Part, parts_of_iter}
use Rattle.sb_text.specs.Depth.{is_too_deep}
use Rattle.sb_text.proofs.Deepest.{length-parts}
use Rattle.sb_text.proofs.depth.first_too_deep.Goals as goal

pub loop-statement-init : goal.loop-statement-init
loop-statement-init c =
    let same = ap parts_of_iter c.into_iter-statement-iterator.ensures.into_iter_gives ∙ c.statements-statement-items.ensures in
    let count = ap length same in
    record {
      first = ap (position_from (λ (part : Part). is_too_deep part.0) 1) same;
      number = omega (arith, count, length-parts c.args.tokens.now);
    }
