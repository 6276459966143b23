use Rattle.std.proofs.Common.{◌≡◌, ◌++◌, map, take}
use Rattle.rule_grammar.specs.Rules.{OfSelect}
use Rattle.rule_printing.specs.Printing.{definition_of}
use Rattle.rule_printing.proofs.print.push_selects.Given as goal

abbrev pub invariant-loop-select : goal.invariant-loop-select
invariant-loop-select l = map definition_of l.all.items ≡ map definition_of l.fn.all.items ++ map OfSelect (take l.select-index l.selects)
