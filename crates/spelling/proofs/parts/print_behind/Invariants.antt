use Rattle.std.specs.List.{flat_map}
use Rattle.spelling.specs.Lexemes.{Symbol}
use Rattle.spelling.specs.Writing.{puts}
use Rattle.spelling.proofs.PrintedLists.{RunLeft, behind}
use Rattle.spelling.proofs.parts.print_behind.Given as goal

-- the parts that are left, each behind the symbol, complete the run
abbrev pub invariant-loop-part : goal.invariant-loop-part
invariant-loop-part g l =
    RunLeft (behind (Symbol l.symbol) (g.P.Printer.lexemes l.printer)) l.out l.parts l.part-index (puts l.fn.out (flat_map (behind (Symbol l.symbol) (g.P.Printer.lexemes l.printer)) l.parts))
