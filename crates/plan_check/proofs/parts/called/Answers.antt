use Rattle.std.proofs.Common.{arith, ap, length}
use Rattle.plan_check.proofs.Small.{few_arguments}
use Rattle.plan_check.proofs.parts.called.Goals as goal

pub values-requires-clause-few : goal.values-requires-clause-few
values-requires-clause-few c =
    let few = few_arguments c.args.basis.now.rules.now c.args.expr.now c.in-Reference.star c.in-Reference.args c.args.env.now c.stands.ensures.formed c.in-Reference.is c.requires.place in
    let same = ap length c.as_slice.ensures in
    omega (arith, few, same)
