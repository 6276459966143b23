use Rattle.std.proofs.Common.{◌+◌, length}
use Rattle.rule_grammar.specs.Values.{value_lexemes}
use Rattle.rule_printing.proofs.value_print.+value_print.Given as goal

-- The number of lexemes falls.
abbrev pub decreases-print_value : goal.decreases-print_value
decreases-print_value l = length (value_lexemes l.value.now)

abbrev pub decreases-print_unary : goal.decreases-print_unary
decreases-print_unary l = length (value_lexemes l.value.now) + 1

abbrev pub decreases-print_binary : goal.decreases-print_binary
decreases-print_binary l = length (value_lexemes l.first.now) + length (value_lexemes l.second.now) + 2

abbrev pub decreases-print_pair : goal.decreases-print_pair
decreases-print_pair l = length (value_lexemes l.first.now) + length (value_lexemes l.second.now) + 1

abbrev pub decreases-print_required : goal.decreases-print_required
decreases-print_required l = length (value_lexemes l.stream.now) + length (value_lexemes l.value.now) + 1

abbrev pub decreases-print_ternary : goal.decreases-print_ternary
decreases-print_ternary l = length (value_lexemes l.first.now) + length (value_lexemes l.second.now) + length (value_lexemes l.third.now) + 2
