use Rattle.std.proofs.Common.{◌≡◌, ◌<◌, [], ◌∷◌, sym, length, get_or, arith}
use Rattle.sb_outside.proofs.Tables.{has_record}
use Rattle.sb_outside.proofs.raw_table.RawTable.field.Goals as goal

pub start_of-requires : goal.start_of-requires
start_of-requires c =
    let at = has_record c.self.inside _ c.args.record_no c.self.invariant c.self.view_is c.requires.record_in_range in
    rw c.as_slice.ensures.value at.in_range

pub overflow_add-index : goal.overflow_add-index
overflow_add-index c =
    let at = has_record c.self.inside _ c.args.record_no c.self.invariant c.self.view_is c.requires.record_in_range in
    let start : c.start_of.result ≡ get_or (0 ∷ c.self.inside.record_ends.items) c.args.record_no 0 = rw (← c.as_slice.ensures.value) c.start_of.ensures in
    let in_range : c.args.field_no < length (get_or c.args.self.now c.args.record_no []) = c.requires.field_in_range in
    omega (arith, at.size, at.within, c.as_slice-ends.type_inv, c.as_slice-ends.ensures.len, c.self.inside.field_ends.ok.0)

pub piece-requires-clause-in_range : goal.piece-requires-clause-in_range
piece-requires-clause-in_range c =
    let at = has_record c.self.inside _ c.args.record_no c.self.invariant c.self.view_is c.requires.record_in_range in
    let start : c.start_of.result ≡ get_or (0 ∷ c.self.inside.record_ends.items) c.args.record_no 0 = rw (← c.as_slice.ensures.value) c.start_of.ensures in
    let in_range : c.args.field_no < length (get_or c.args.self.now c.args.record_no []) = c.requires.field_in_range in
    rw c.as_slice-ends.ensures.value (omega (arith, at.size, at.within))

pub returns : goal.returns
returns c =
    let at = has_record c.self.inside _ c.args.record_no c.self.invariant c.self.view_is c.requires.record_in_range in
    rw (c.piece.ensures, c.start_of.ensures, c.as_slice.ensures.value, c.as_slice-ends.ensures.value, c.as_slice-2.ensures.value) (sym (at.field c.args.field_no c.requires.field_in_range))
