use Rattle.std.proofs.Common.{map}
use Rattle.spelling.specs.Lexemes.{comma, joined_by}
use Rattle.catalogue.specs.Catalogues.{column_lexemes}
use Rattle.spelling.specs.Writing.{puts}
use Rattle.catalogue.proofs.Printed.{later_of, no_items, items_first, items_next, items_done}
use Rattle.catalogue.proofs.print.print_column_list.Goals as goal

pub returns-in_default : goal.returns-in_default
returns-in_default c = no_items column_lexemes c.args.out.now c.args.columns.now c.in_default.len_below

pub loop-column-init : goal.loop-column-init
loop-column-init c =
    items_first column_lexemes c.args.out.now c.print_column.new.out c.args.columns.now c.first-item.result c.in-len1-up.len_at_least c.first-item.is c.in_ok-print_column.ensures

pub loop-column-preserved : goal.loop-column-preserved
loop-column-preserved c =
    let l = c.loop-column in
    let all = puts c.args.out.now (joined_by comma (map column_lexemes c.args.columns.now)) in
    items_next column_lexemes l.out c.symbol.new.self c.print_column-in-loop-column.new.out all (later_of c.args.columns.now) l.column-index c.column-item.result
    c.loop-column-test.true l.invariant c.column-item.is c.in_ok-symbol.ensures c.in_ok-print_column-2.ensures

pub returns : goal.returns
returns c =
    let all = puts c.args.out.now (joined_by comma (map column_lexemes c.args.columns.now)) in
    items_done column_lexemes c.loop-column.out all (later_of c.args.columns.now) c.loop-column.column-index c.loop-column-test.false c.loop-column.invariant
