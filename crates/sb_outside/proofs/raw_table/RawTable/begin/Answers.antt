use Rattle.std.proofs.Common.{ℕ, List, [], ◌∷◌, ◌++◌, arith, sym, ap, ◌∙◌}
use Rattle.std.proofs.lemmas.List.{append-nil}
use Rattle.sb_outside.specs.Pieces.{pieces}
use Rattle.sb_outside.specs.Records.{Records}
use Rattle.sb_outside.specs.RawTable.{fields_in}
use Rattle.sb_outside.proofs.Pieces.{are_ends_more, pieces_more, length_pieces}
use Rattle.sb_outside.proofs.raw_table.RawTable.begin.Goals as goal

pub invariant_of-self-2 : goal.invariant_of-self-2
invariant_of-self-2 c = record {
  fields = c.self.invariant.fields;
  records = rw (c.in_ok-push.ensures.items, c.len-end.ensures, c.self.inside.field_ends.ok.0) (are_ends_more 0 c.self.inside.record_ends.items _ _ c.self.invariant.records (omega arith));
}

pub returns-clause-added : goal.returns-clause-added
returns-clause-added c =
    let fields = fields_in c.self.inside in
    let len = length_pieces 0 c.self.inside.field_ends.items c.self.inside.bytes.items in
    ap (λ (ends : List ℕ). pieces 0 ends fields) c.in_ok-push.ensures.items
    ∙ pieces_more 0 c.self.inside.record_ends.items fields [] fields c.len-end.result (rw len c.self.invariant.records) (sym (append-nil fields)) (c.len-end.ensures ∙ c.self.inside.field_ends.ok.0 ∙ sym len)
    ∙ ap (λ (table : Records). table ++ [] ∷ []) c.self.view_is
