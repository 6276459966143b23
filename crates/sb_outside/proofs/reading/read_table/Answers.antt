use Rattle.std.proofs.Common.{◌≡◌, ◌∙◌, sym, refl, rules, [], ◌∷◌, ◌++◌}
use Rattle.csv.specs.Records.{fields_of}
use Rattle.sb_outside.proofs.RowsRead.{at_start, one_more, all_read, error_explained}
use Rattle.sb_outside.proofs.reading.read_table.Goals as goal

pub loop-row-init : goal.loop-row-init
loop-row-init c =
    let start = c.into_iter-row-iterator.ensures.into_iter_gives ∙ refl in
    let rows = c.into_byte_records-row-items.ensures in
    rw (start, rows.rdr, c.new-table.ensures) (rows.left, at_start _ c.args.bytes.now c.reader_of.ensures)

pub loop-row-preserved : goal.loop-row-preserved
loop-row-preserved c =
    let has = c.loop-row.invariant.1 in
    let steps = rw (c.in-Some.is, c.in-Ok.is) at (c.next.ensures.steps c.loop-row.invariant.0 has.untrimmed) in
    let step = steps.0 has.ready in
    let grown : c.add_record.new.table ≡ c.loop-row.table ++ fields_of c.in-Ok.row ∷ [] = search rules in
    (step.2, rw grown (one_more c.loop-row.row-iterator.rdr c.next.new.self.rdr c.args.bytes.now c.loop-row.table (fields_of c.in-Ok.row) has step.0 step.1 steps.3))

pub fault_of-requires : goal.fault_of-requires
fault_of-requires c =
    let has = c.loop-row.invariant.1 in
    let steps = rw (c.in-Some.is, c.in-Err.is) at (c.next.ensures.steps c.loop-row.invariant.0 has.untrimmed) in
    error_explained c.loop-row.row-iterator.rdr c.next.new.self.rdr c.args.bytes.now c.loop-row.table c.in-Err.error.kind has (steps.0 has.ready)

pub returns : goal.returns
returns c =
    let has = c.loop-row.invariant.1 in
    let step = rw c.in-None.is at ((c.next.ensures.steps c.loop-row.invariant.0 has.untrimmed).0 has.ready) in
    sym (all_read c.loop-row.row-iterator.rdr c.next.new.self.rdr c.args.bytes.now c.loop-row.table [] has step)
