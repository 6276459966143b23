use Rattle.stars_core.proofs.Emitting.{part_of_both}
use Rattle.stars_core.proofs.top.emit.Goals as goal

pub returns-in-Some-clause-part : goal.returns-in-Some-clause-part
returns-in-Some-clause-part g c =
    rw c.in-Some.is
    (part_of_both c.put-in-Some.result _ _ _ c.args.pieces.now.text.items c.in-Some.rows.items
    (rw c.as_slice.ensures.value at c.in_ok-put.ensures.added) (rw c.as_slice-in-Some.ensures.value at c.put-in-Some.ensures.part))
