use Rattle.std.proofs.Common.{arith}
use Rattle.sb_text.proofs.Quoted.{starts, other_goes_on, pair_goes_on, ends, further, seen_within}
use Rattle.sb_text.proofs.front.quoted.Goals as goal

pub loop-at-init : goal.loop-at-init
loop-at-init c = record { whole = starts c.args.rest.now; within = omega arith; closed = tt }

pub loop-at-preserved-then-rest-at-ne39 : goal.loop-at-preserved-then-rest-at-ne39
loop-at-preserved-then-rest-at-ne39 c = record {
  whole = other_goes_on c.loop-at.at c.args.rest.now c.loop-at.closed _ c.loop-at-test.true c.if-rest-at-ne39.true c.loop-at.invariant.whole;
  within = omega arith;
  closed = further c.loop-at.at c.loop-at.closed c.loop-at.invariant.closed;
}

pub loop-at-preserved : goal.loop-at-preserved
loop-at-preserved c = record {
  whole = pair_goes_on c.loop-at.at c.args.rest.now c.loop-at.closed _ c.if-at-rest.true c.if-rest-at-ne39.false c.if-rest-at-eq39.true c.loop-at.invariant.whole;
  within = omega arith;
  closed = (omega arith, omega arith);
}

pub returns : goal.returns
returns c = record {
  value = ends c.loop-at.at c.args.rest.now c.loop-at.closed _ c.loop-at-test.false c.loop-at.invariant.whole;
  bound = seen_within c.loop-at.at _ c.loop-at.closed c.loop-at.invariant.within c.loop-at.invariant.closed;
}
