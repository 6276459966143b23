use Rattle.std.specs.List.{flat_map}
use Rattle.spelling.specs.Writing.{puts}
use Rattle.spelling.proofs.PrintedLists.{run_next, run_done}
use Rattle.spelling.proofs.parts.print_run.Goals as goal

pub loop-part-preserved : goal.loop-part-preserved
loop-part-preserved g c =
    let spell = g.P.Printer.lexemes c.args.printer.now in
    run_next spell c.loop-part.out c.print.new.out (puts c.args.out.now (flat_map spell c.args.parts.now)) c.args.parts.now c.loop-part.part-index c.part-item.result
    c.loop-part-test.true c.loop-part.invariant c.part-item.is c.in_ok-print.ensures

pub returns : goal.returns
returns g c =
    let spell = g.P.Printer.lexemes c.args.printer.now in
    run_done spell c.loop-part.out (puts c.args.out.now (flat_map spell c.args.parts.now)) c.args.parts.now c.loop-part.part-index c.loop-part-test.false c.loop-part.invariant
