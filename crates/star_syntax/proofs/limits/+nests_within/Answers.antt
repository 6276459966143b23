use Rattle.std.proofs.Common.{sym, ◌∙◌, arith}
use Rattle.star_syntax.proofs.Counting.{within-zero, within-Reference, within-Glue, within-Leaf, within-Unary, within-Binary}
use Rattle.star_syntax.proofs.limits.+nests_within.Goals as goal

pub returns-in_default : goal.returns-in_default
returns-in_default t c = sym (within-zero c.args.plan.now c.args.depth (omega (arith, c.in_default.ensures)))

pub returns-in-Reference : goal.returns-in-Reference
returns-in-Reference t c = rw c.in-Reference.is (sym (within-Reference c.in-Reference.star c.in-Reference.args c.args.depth (omega (arith, c.in-Some.ensures))))

pub returns-in-Glue : goal.returns-in-Glue
returns-in-Glue t c = rw c.in-Glue.is (sym (within-Glue c.in-Glue.stream c.in-Glue.preds c.args.depth (omega (arith, c.in-Some.ensures))))

pub returns-in-Leaf : goal.returns-in-Leaf
returns-in-Leaf t c = rw c.in-Leaf.is (sym (within-Leaf c.in-Leaf.flavour c.in-Leaf.args c.args.depth (omega (arith, c.in-Some.ensures))))

pub returns-in-Unary : goal.returns-in-Unary
returns-in-Unary t c =
    let inside = rw c.get.ensures at c.nests_within.ensures in
    rw c.in-Unary.is (inside ∙ sym (within-Unary c.in-Unary.flavour c.in-Unary.args c.in-Unary.input c.args.depth c.in-Some.inside (omega (arith, c.in-Some.ensures))))

pub returns-then-nests_within : goal.returns-then-nests_within
returns-then-nests_within t c =
    let left = sym (rw c.get-in-Binary.ensures at c.nests_within-in-Binary.ensures) ∙ c.if-nests_within.true in
    let right = rw c.get-then-nests_within.ensures at c.nests_within-then-nests_within.ensures in
    let both = within-Binary c.in-Binary.flavour c.in-Binary.args c.in-Binary.left c.in-Binary.right c.args.depth c.in-Some.inside (omega (arith, c.in-Some.ensures)) in
    rw (c.in-Binary.is, both, left) right

pub returns-else-nests_within : goal.returns-else-nests_within
returns-else-nests_within t c =
    let left = sym (rw c.get-in-Binary.ensures at c.nests_within-in-Binary.ensures) ∙ c.if-nests_within.false in
    let both = within-Binary c.in-Binary.flavour c.in-Binary.args c.in-Binary.left c.in-Binary.right c.args.depth c.in-Some.inside (omega (arith, c.in-Some.ensures)) in
    rw (c.in-Binary.is, both, left) c.if-nests_within.false
