use Rattle.std.proofs.lemmas.Result.{on_ok_weaker}
use Rattle.spelling.specs.Lexemes.{Symbol}
use Rattle.spelling.proofs.PrintedLists.{no_parts, first_and_later}
use Rattle.spelling.proofs.parts.print_joined.Goals as goal

pub returns-in_default : goal.returns-in_default
returns-in_default g c = no_parts (Symbol c.args.symbol.now) (g.P.Printer.lexemes c.args.printer.now) c.args.out.now c.args.parts.now c.in_default.len_below

pub returns : goal.returns
returns g c =
    on_ok_weaker c.print_behind.result (first_and_later (Symbol c.args.symbol.now) (g.P.Printer.lexemes c.args.printer.now) c.args.out.now c.print.new.out c.print_behind.new.out c.args.parts.now c.first-item.result
    c.in-len1-up.len_at_least c.first-item.is c.in_ok-print.ensures) c.print_behind.ensures
