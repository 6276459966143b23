use Rattle.std.proofs.Common.{length, sym, ap, ◌∙◌}
use Rattle.sb_outside.specs.RawTable.{fields_in}
use Rattle.sb_outside.proofs.Pieces.{length_pieces}
use Rattle.sb_outside.proofs.raw_table.RawTable.len.Goals as goal

pub returns : goal.returns
returns c = c.len.ensures ∙ c.self.inside.record_ends.ok.0 ∙ sym (length_pieces 0 c.self.inside.record_ends.items (fields_in c.self.inside)) ∙ ap length c.self.view_is
