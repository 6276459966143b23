use Rattle.std.proofs.Common.{map, take, Some, None, arith}
use Rattle.std.proofs.lemmas.List.{length-map}
use Rattle.catalogue.specs.Words.{said}
use Rattle.catalogue.specs.Beyond.{IsBeyond}
use Rattle.catalogue.proofs.FirstLaws.{read_at, take_one, none_more}
use Rattle.catalogue.proofs.LimitLaws.{limit_here, found_here, counted_few}
use Rattle.catalogue.proofs.limits.first_limit.Goals as goal

pub returns-in-Some : goal.returns-in-Some
returns-in-Some c =
    let is = read_at said c.args.statements.now c.loop-place.place c.index-statements-place.result (omega arith) c.index-statements-place.is in
    rw c.number_of.ensures
    (limit_here (map said c.args.statements.now) c.loop-place.place (said c.index-statements-place.result) c.in-Some.what c.loop-place.invariant.1 is
    (found_here c.loop-place.before (take c.loop-place.place (map said c.args.statements.now)) (said c.index-statements-place.result) (Some c.in-Some.what) c.loop-place.invariant.0 c.in-Some.ensures))

pub with-before-requires : goal.with-before-requires
with-before-requires c =
    omega (arith, counted_few c.loop-place.before (map said c.args.statements.now) c.loop-place.place c.loop-place.invariant.0 (omega (arith, length-map c.args.statements.now said)))

pub loop-place-preserved : goal.loop-place-preserved
loop-place-preserved c =
    let is = read_at said c.args.statements.now c.loop-place.place c.index-statements-place.result (omega arith) c.index-statements-place.is in (
      rw (take_one (map said c.args.statements.now) c.loop-place.place (said c.index-statements-place.result) is) (c.with-before.ensures _ c.loop-place.invariant.0),
      none_more IsBeyond (map said c.args.statements.now) c.loop-place.place (said c.index-statements-place.result) c.loop-place.invariant.1 is
          (found_here c.loop-place.before (take c.loop-place.place (map said c.args.statements.now)) (said c.index-statements-place.result) None c.loop-place.invariant.0 c.in-None.ensures),
    )
