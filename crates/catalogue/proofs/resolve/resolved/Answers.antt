use Rattle.std.proofs.Common.{map, arith}
use Rattle.catalogue.specs.Words.{said}
use Rattle.catalogue.proofs.FirstLaws.{read_at}
use Rattle.catalogue.proofs.SoFar.{none_so_far, can_be_added, one_added}
use Rattle.catalogue.proofs.resolve.resolved.Goals as goal

pub loop-statement-init : goal.loop-statement-init
loop-statement-init c = rw (c.new.ensures, c.new-2.ensures, c.new-3.ensures) (none_so_far (map said c.args.statements.now))

pub add-requires : goal.add-requires
add-requires c =
    let at = read_at said c.args.statements.now c.loop-statement.statement-index c.statement-item.result (omega arith) c.statement-item.is in
    can_be_added (map said c.args.statements.now) c.requires c.loop-statement.statement-index (said c.statement-item.result) at c.loop-statement.catalogue c.loop-statement.invariant

pub loop-statement-preserved : goal.loop-statement-preserved
loop-statement-preserved c =
    let at = read_at said c.args.statements.now c.loop-statement.statement-index c.statement-item.result (omega arith) c.statement-item.is in
    one_added (map said c.args.statements.now) c.requires c.loop-statement.statement-index (said c.statement-item.result) at c.loop-statement.catalogue c.loop-statement.invariant
    c.add.new.catalogue c.in_ok-add.ensures
