use Rattle.std.proofs.Common.{◌∙◌, arith}
use Rattle.std.proofs.lemmas.Result.{err_from_is_err_and}
use Rattle.table_taking.proofs.Along.{one_along, stops, all_along, number_is, number_there}
use Rattle.table_taking.proofs.taking.take_tables.Goals as goal

pub take_table-requires-clause-number : goal.take_table-requires-clause-number
take_table-requires-clause-number g c =
    number_there c.args.query.now c.as_slice-number-items.result.now
    (c.as_slice-number-items.ensures.value ∙ c.in_ok-numbers.ensures) c.loop-number.number-index
    c.loop-number-test.true c.requires

pub put_table-requires : goal.put_table-requires
put_table-requires g c =
    let there = number_there c.args.query.now c.as_slice-number-items.result.now
    (c.as_slice-number-items.ensures.value ∙ c.in_ok-numbers.ensures) c.loop-number.number-index
    c.loop-number-test.true c.requires in
    omega (arith, there, c.loop-number.invariant.places)

pub returns-in_err-table-clause-taken : goal.returns-in_err-table-clause-taken
returns-in_err-table-clause-taken g c =
    let are = c.as_slice-number-items.ensures.value ∙ c.in_ok-numbers.ensures in
    let p = err_from_is_err_and c.from_residual-in_err-table.result
    c.from_residual-in_err-table.ensures.1 in
    rw (p.1, p.2) (stops c.args.query.now (g.S.Shelf.state c.args.shelf.now)
    c.as_slice-number-items.result.now (g.S.Shelf.state c.loop-number.shelf)
    (g.S.Shelf.state c.take_table.new.shelf)
    c.loop-number.tables.loaded c.loop-number.number-index _ c.loop-number.invariant
    (number_is c.args.query.now c.as_slice-number-items.result.now are c.loop-number.number-index
    c.loop-number-test.true) c.in_err-table.ensures.goes _ are c.in_err-table.ensures.taken)

pub loop-number-preserved : goal.loop-number-preserved
loop-number-preserved g c =
    let are = c.as_slice-number-items.ensures.value ∙ c.in_ok-numbers.ensures in
    one_along c.args.query.now (g.S.Shelf.state c.args.shelf.now) c.as_slice-number-items.result.now
    (g.S.Shelf.state c.loop-number.shelf) (g.S.Shelf.state c.take_table.new.shelf)
    c.loop-number.tables.loaded c.loop-number.number-index _ c.loop-number.invariant
    (number_is c.args.query.now c.as_slice-number-items.result.now are c.loop-number.number-index
    c.loop-number-test.true) c.in_ok-table.ensures.goes c.in_ok-table.table _
    (number_there c.args.query.now c.as_slice-number-items.result.now are c.loop-number.number-index
    c.loop-number-test.true c.requires) c.in_ok-table.ensures.taken c.put_table.ensures

pub returns-clause-taken : goal.returns-clause-taken
returns-clause-taken g c =
    all_along c.args.query.now (g.S.Shelf.state c.args.shelf.now) c.as_slice-number-items.result.now
    (g.S.Shelf.state c.loop-number.shelf) c.loop-number.tables c.loop-number.number-index
    (c.as_slice-number-items.ensures.value ∙ c.in_ok-numbers.ensures)
    (omega (arith, c.loop-number-test.false, c.loop-number.auto.number-index-end))
    c.loop-number.invariant
