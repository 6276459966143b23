use Rattle.std.specs.List.{flat_map}
use Rattle.spelling.specs.Writing.{puts}
use Rattle.spelling.proofs.PrintedLists.{RunLeft}
use Rattle.spelling.proofs.parts.print_run.Given as goal

-- the parts that are left complete the run
abbrev pub invariant-loop-part : goal.invariant-loop-part
invariant-loop-part g l = RunLeft (g.P.Printer.lexemes l.printer) l.out l.parts l.part-index (puts l.fn.out (flat_map (g.P.Printer.lexemes l.printer) l.parts))
