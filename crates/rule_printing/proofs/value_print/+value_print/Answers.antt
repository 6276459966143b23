use Rattle.std.proofs.Common.{rules}
use Rattle.rule_printing.proofs.PrintedValues.{lexemes-Indexable}
use Rattle.rule_printing.proofs.value_print.+value_print.Goals as goal

pub print_value-returns-in-Indexable : goal.print_value-returns-in-Indexable
print_value-returns-in-Indexable t c = search (rules, lexemes-Indexable)
