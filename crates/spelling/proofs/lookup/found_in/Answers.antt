use Rattle.std.proofs.Common.{◌∙◌, sym}
use Rattle.spelling.proofs.Looking.{from_row, behind_rows}
use Rattle.spelling.proofs.lookup.found_in.Goals as goal

pub loop-spelling-preserved : goal.loop-spelling-preserved
loop-spelling-preserved g c =
    c.loop-spelling.invariant ∙ from_row _ _ _ _ _ _ c.loop-spelling-test.true c.loop-spelling-item.is (sym c.if-are_same.false ∙ c.are_same.ensures)

pub returns-then-are_same : goal.returns-then-are_same
returns-then-are_same g c =
    sym (c.loop-spelling.invariant ∙ from_row _ _ _ _ _ _ c.loop-spelling-test.true c.loop-spelling-item.is (sym c.if-are_same.true ∙ c.are_same.ensures))

pub returns : goal.returns
returns g c = sym (c.loop-spelling.invariant ∙ behind_rows _ _ _ _ c.loop-spelling-test.false)
