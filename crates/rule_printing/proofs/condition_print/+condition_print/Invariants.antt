use Rattle.std.proofs.Common.{◌+◌, length}
use Rattle.rule_grammar.specs.Values.{condition_lexemes}
use Rattle.rule_printing.proofs.condition_print.+condition_print.Given as goal

-- The number of lexemes falls.
abbrev pub decreases-print_condition : goal.decreases-print_condition
decreases-print_condition l = length (condition_lexemes l.condition.now)

abbrev pub decreases-print_both : goal.decreases-print_both
decreases-print_both l = length (condition_lexemes l.first.now) + length (condition_lexemes l.second.now) + 1
