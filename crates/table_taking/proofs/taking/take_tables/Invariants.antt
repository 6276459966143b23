use Rattle.table_taking.proofs.Along.{CameAlong}
use Rattle.table_taking.proofs.taking.take_tables.Given as goal

abbrev pub invariant-loop-number : goal.invariant-loop-number
invariant-loop-number g l = CameAlong l.query (g.S.Shelf.state l.initial.shelf)
    (g.S.Shelf.state l.shelf) l.number-items l.tables.loaded l.number-index
