use Rattle.std.proofs.Common.{ℕ, List, ◌++◌, ◌+◌, ◌-◌, ◌<◌, ◌≡◌, length, arith, sym, ap, ◌∙◌, refl, true, vec_len}
use Rattle.std.specs.Result.{is_ok}
use Rattle.sb_outside.specs.Pieces.{with_last_item}
use Rattle.sb_outside.specs.Records.{Records}
use Rattle.sb_outside.specs.RawTable.{fields_in}
use Rattle.sb_outside.proofs.Pieces.{field_more, length_pieces}
use Rattle.sb_outside.proofs.raw_table.RawTable.add.Goals as goal

pub invariant_of-self-2 : goal.invariant_of-self-2
invariant_of-self-2 c =
    let good : is_ok c.extend_from_slice.result ≡ true = ap is_ok c.unwrap.ensures in
    let bytes_is = rw good at c.extend_from_slice.ensures.items ∙ ap (λ (b : List ℕ). b ++ c.args.field.now) c.in_ok-reserve.ensures.items in
    let records_len : vec_len c.self.inside.record_ends ≡ length c.self.inside.record_ends.items = c.self.inside.record_ends.ok.0 in
    let fields_len : vec_len c.self.inside.field_ends ≡ length c.self.inside.field_ends.items = c.self.inside.field_ends.ok.0 in
    let bytes_len : vec_len c.self.inside.bytes ≡ length c.self.inside.bytes.items = c.self.inside.bytes.ok.0 in
    let some : 0 < length c.self.inside.record_ends.items = rw (sym (length_pieces 0 c.self.inside.record_ends.items (fields_in c.self.inside)), c.self.view_is) c.requires in
    let more = field_more c.self.inside.bytes.items c.args.field.now _ c.self.inside.field_ends.items _ c.self.inside.record_ends.items _ (c.len.result + length c.args.field.now) c.len-2.result (c.len-last.result - 1)
    c.self.invariant.fields c.self.invariant.records bytes_is c.in_ok-push.ensures.items
    (omega (arith, c.in_ok-reserve.ensures.len)) refl (omega (arith, c.in_ok-push.ensures.len)) (omega arith) in
    record { fields = more.fields; records = more.records }

pub returns-clause-added : goal.returns-clause-added
returns-clause-added c =
    let good : is_ok c.extend_from_slice.result ≡ true = ap is_ok c.unwrap.ensures in
    let bytes_is = rw good at c.extend_from_slice.ensures.items ∙ ap (λ (b : List ℕ). b ++ c.args.field.now) c.in_ok-reserve.ensures.items in
    let records_len : vec_len c.self.inside.record_ends ≡ length c.self.inside.record_ends.items = c.self.inside.record_ends.ok.0 in
    let fields_len : vec_len c.self.inside.field_ends ≡ length c.self.inside.field_ends.items = c.self.inside.field_ends.ok.0 in
    let bytes_len : vec_len c.self.inside.bytes ≡ length c.self.inside.bytes.items = c.self.inside.bytes.ok.0 in
    let some : 0 < length c.self.inside.record_ends.items = rw (sym (length_pieces 0 c.self.inside.record_ends.items (fields_in c.self.inside)), c.self.view_is) c.requires in
    let more = field_more c.self.inside.bytes.items c.args.field.now _ c.self.inside.field_ends.items _ c.self.inside.record_ends.items _ (c.len.result + length c.args.field.now) c.len-2.result (c.len-last.result - 1)
    c.self.invariant.fields c.self.invariant.records bytes_is c.in_ok-push.ensures.items
    (omega (arith, c.in_ok-reserve.ensures.len)) refl (omega (arith, c.in_ok-push.ensures.len)) (omega arith) in
    more.view ∙ ap (λ (table : Records). with_last_item table c.args.field.now) c.self.view_is
