use Rattle.std.proofs.Common.{length, refl, arith}
use Rattle.std.proofs.lemmas.Option.{slice_get_read}
use Rattle.catalogue.proofs.DifferLaws.{seen_again, seen_new}
use Rattle.catalogue.proofs.names.names_differ.Goals as goal

pub returns-then-not-branch : goal.returns-then-not-branch
returns-then-not-branch c =
    seen_again c.args.names.now c.loop-name.seen c.loop-name.name-index c.name-item.result c.as_slice.result.now c.in_ok-insert.field-0
    (slice_get_read c.args.names.now (length c.args.names.now) c.loop-name.name-index c.name-item.result refl (omega arith) c.name-item.is)
    c.as_slice.ensures c.loop-name.invariant.0 c.in_ok-insert.ensures.new c.if-not-branch.true

pub loop-name-preserved : goal.loop-name-preserved
loop-name-preserved c =
    seen_new c.args.names.now c.loop-name.seen c.insert.new.self c.loop-name.name-index c.name-item.result c.as_slice.result.now c.in_ok-insert.field-0
    (slice_get_read c.args.names.now (length c.args.names.now) c.loop-name.name-index c.name-item.result refl (omega arith) c.name-item.is)
    c.as_slice.ensures c.loop-name.invariant.0 c.in_ok-insert.ensures.new c.if-not-branch.false c.in_ok-insert.ensures.ok c.loop-name.invariant.1
