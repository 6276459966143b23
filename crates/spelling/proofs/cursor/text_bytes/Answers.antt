use Rattle.std.proofs.Common.{◌∙◌, ap, arith, sym, ◌++◌}
use Rattle.std.proofs.lemmas.List.{append-nil}
use Rattle.spelling.proofs.Undoubling.{undoubled-quote, undoubled-byte, undoubled-end, pushed}
use Rattle.spelling.proofs.cursor.text_bytes.Goals as goal

pub loop-at-preserved-then-written-at-eq39 : goal.loop-at-preserved-then-written-at-eq39
loop-at-preserved-then-written-at-eq39 c = (
  pushed _ _ _ _ _ _ c.in_ok-push.ensures.items (undoubled-quote c.args.written.now c.loop-at.at c.loop-at-test.true c.if-written-at-eq39.true) c.loop-at.invariant.0,
  omega arith,
)

pub loop-at-preserved : goal.loop-at-preserved
loop-at-preserved c = (
  pushed _ _ _ _ _ _ c.in_ok-push.ensures.items (undoubled-byte c.args.written.now c.loop-at.at c.loop-at-test.true c.if-written-at-eq39.false) c.loop-at.invariant.0,
  omega arith,
)

pub returns : goal.returns
returns c =
    sym (append-nil c.loop-at.bytes.items) ∙ ap (λ l. c.loop-at.bytes.items ++ l) (sym (undoubled-end c.args.written.now c.loop-at.at c.loop-at-test.false)) ∙ c.loop-at.invariant.0
