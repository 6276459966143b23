use Rattle.std.proofs.Common.{◌≡◌, ◌++◌, map, take}
use Rattle.rule_grammar.specs.Rules.{OfFormula}
use Rattle.rule_printing.specs.Printing.{definition_of}
use Rattle.rule_printing.proofs.print.push_formulas.Given as goal

abbrev pub invariant-loop-formula : goal.invariant-loop-formula
invariant-loop-formula l = map definition_of l.all.items ≡ map definition_of l.fn.all.items ++ map OfFormula (take l.formula-index l.formulas)
