use Rattle.std.proofs.Common.{sym}
use Rattle.sb_outside.proofs.Tables.{has_record}
use Rattle.sb_outside.proofs.raw_table.RawTable.fields.Goals as goal

pub piece_len-requires-clause-in_range : goal.piece_len-requires-clause-in_range
piece_len-requires-clause-in_range c =
    let at = has_record c.self.inside _ c.args.record_no c.self.invariant c.self.view_is c.requires in
    rw c.as_slice.ensures.value at.in_range

pub piece_len-requires-clause-in_order : goal.piece_len-requires-clause-in_order
piece_len-requires-clause-in_order c =
    let at = has_record c.self.inside _ c.args.record_no c.self.invariant c.self.view_is c.requires in
    rw c.as_slice.ensures.value at.in_order

pub returns : goal.returns
returns c =
    let at = has_record c.self.inside _ c.args.record_no c.self.invariant c.self.view_is c.requires in
    rw (c.piece_len.ensures, c.as_slice.ensures.value) (sym at.size)
