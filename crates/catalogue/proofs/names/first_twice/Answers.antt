use Rattle.std.proofs.Common.{◌∙◌, sym, map, arith}
use Rattle.std.proofs.lemmas.Bool.{both_ways}
use Rattle.catalogue.specs.Words.{said}
use Rattle.catalogue.specs.Defined.{DefinesTwice}
use Rattle.catalogue.proofs.FirstLaws.{read_at, take_one, none_more, first_here}
use Rattle.catalogue.proofs.names.first_twice.Goals as goal

pub returns-then-branch : goal.returns-then-branch
returns-then-branch c =
    let is = read_at said c.args.statements.now c.loop-place.place c.index-statements-place.result (omega arith) c.index-statements-place.is in
    rw c.number_of.ensures
    (first_here DefinesTwice (map said c.args.statements.now) c.loop-place.place (said c.index-statements-place.result) c.loop-place.invariant.1 is
    (sym (c.in_ok-has_twice.ensures.twice _ c.loop-place.invariant.0) ∙ c.if-branch.true))

pub loop-place-preserved : goal.loop-place-preserved
loop-place-preserved c =
    let is = read_at said c.args.statements.now c.loop-place.place c.index-statements-place.result (omega arith) c.index-statements-place.is in (
      rw (take_one (map said c.args.statements.now) c.loop-place.place (said c.index-statements-place.result) is) (c.in_ok-has_twice.ensures.defined _ c.loop-place.invariant.0),
      none_more DefinesTwice (map said c.args.statements.now) c.loop-place.place (said c.index-statements-place.result) c.loop-place.invariant.1 is
          (λ twice. both_ways _ c.if-branch.false (c.in_ok-has_twice.ensures.twice _ c.loop-place.invariant.0 ∙ twice)),
    )
