use Rattle.std.proofs.Common.{◌∙◌, ap, sym}
use Rattle.std.specs.List.{flat_map}
use Rattle.spelling.specs.Lexemes.{Symbol}
use Rattle.spelling.specs.Writing.{puts}
use Rattle.spelling.proofs.WritingLaws.{puts-more}
use Rattle.spelling.proofs.PrintedLists.{behind, run_next, run_done}
use Rattle.spelling.proofs.parts.print_behind.Goals as goal

pub loop-part-preserved : goal.loop-part-preserved
loop-part-preserved g c =
    let symbol = Symbol c.args.symbol.now in
    let spell = g.P.Printer.lexemes c.args.printer.now in
    let parts = c.args.parts.now in
    let part = c.part-item.result in
    run_next (behind symbol spell) c.loop-part.out c.print.new.out (puts c.args.out.now (flat_map (behind symbol spell) parts)) parts c.loop-part.part-index part
    c.loop-part-test.true c.loop-part.invariant c.part-item.is
    (c.in_ok-print.ensures ∙ ap (λ w. puts w (spell part)) c.in_ok-symbol.ensures ∙ sym (puts-more c.loop-part.out symbol (spell part)))

pub returns : goal.returns
returns g c =
    let symbol = Symbol c.args.symbol.now in
    let spell = g.P.Printer.lexemes c.args.printer.now in
    run_done (behind symbol spell) c.loop-part.out (puts c.args.out.now (flat_map (behind symbol spell) c.args.parts.now)) c.args.parts.now c.loop-part.part-index
    c.loop-part-test.false c.loop-part.invariant
