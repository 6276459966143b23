use Rattle.std.proofs.Common.{◌∙◌, sym, map, arith}
use Rattle.std.proofs.lemmas.Bool.{both_ways}
use Rattle.catalogue.specs.Words.{said}
use Rattle.catalogue.specs.Defined.{NamesUnknown}
use Rattle.catalogue.proofs.FirstLaws.{read_at, take_one, none_more, first_here}
use Rattle.catalogue.proofs.names.first_unknown.Goals as goal

pub returns-then-lacks_a_name_of : goal.returns-then-lacks_a_name_of
returns-then-lacks_a_name_of c =
    let is = read_at said c.args.statements.now c.loop-place.place c.index-statements-place.result (omega arith) c.index-statements-place.is in
    rw c.number_of.ensures
    (first_here NamesUnknown (map said c.args.statements.now) c.loop-place.place (said c.index-statements-place.result) c.loop-place.invariant.1 is
    (sym (c.lacks_a_name_of.ensures _ c.loop-place.invariant.0) ∙ c.if-lacks_a_name_of.true))

pub loop-place-preserved : goal.loop-place-preserved
loop-place-preserved c =
    let is = read_at said c.args.statements.now c.loop-place.place c.index-statements-place.result (omega arith) c.index-statements-place.is in (
      rw (take_one (map said c.args.statements.now) c.loop-place.place (said c.index-statements-place.result) is) (c.in_ok-define.ensures _ c.loop-place.invariant.0),
      none_more NamesUnknown (map said c.args.statements.now) c.loop-place.place (said c.index-statements-place.result) c.loop-place.invariant.1 is
          (λ unknown. both_ways _ c.if-lacks_a_name_of.false (c.lacks_a_name_of.ensures _ c.loop-place.invariant.0 ∙ unknown)),
    )
