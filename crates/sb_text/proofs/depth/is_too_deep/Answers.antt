use Rattle.sb_text.proofs.Deepest.{too_deep_at}
use Rattle.sb_text.proofs.depth.is_too_deep.Goals as goal

pub returns-then-depth-gt-MOST_DEPTH : goal.returns-then-depth-gt-MOST_DEPTH
returns-then-depth-gt-MOST_DEPTH c =
    too_deep_at c.loop-token.depth c.loop-token.token-index c.depth_after-depth.result c.args.tokens.now _
    c.loop-token-test.true c.depth_after-depth.ensures c.if-depth-gt-MOST_DEPTH.true c.loop-token.invariant.0
