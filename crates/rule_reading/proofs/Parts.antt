-- The parts of STARs, as items of lists.
use Rattle.std.proofs.Common.{ℕ, codes}
use Rattle.spelling.specs.Lexemes.{comma, bar}
use Rattle.star_model.specs.WellFormedRules.{Scope, IsName, IsValue, IsAlternative}
use Rattle.rule_grammar.specs.Values.{value_lexemes}
use Rattle.rule_grammar.specs.Rules.{alternative_lexemes, parameter_lexemes}
use Rattle.spelling.specs.Reading.{the_symbol}
use Rattle.spelling.specs.SeriesReadingCases.{Spells, Separates}
use Rattle.rule_grammar.specs.ValueReading.{value_at}
use Rattle.rule_grammar.specs.StarReading.{alternative_at, parameter_at}
use Rattle.spelling.proofs.Laws.{the_symbol_reads}
use Rattle.rule_grammar.proofs.Laws.{value_is_spelled, alternative_spelled, parameter_spelled}

pub commas : Separates (the_symbol (codes ",")) comma
commas = the_symbol_reads (codes ",")

pub bars : Separates (the_symbol (codes "|")) bar
bars = the_symbol_reads (codes "|")

pub value_is : (scope : Scope) (depth : ℕ) → Spells (value_at scope depth) value_lexemes (IsValue scope)
value_is scope depth = value_is_spelled scope depth

pub alternative_is : (parameters : Scope) (depth : ℕ) → Spells (alternative_at parameters depth) alternative_lexemes (IsAlternative parameters)
alternative_is parameters depth = alternative_spelled parameters depth

pub parameter_is : (version : ℕ) → Spells (parameter_at version) parameter_lexemes (λ p. IsName version p.name)
parameter_is version = parameter_spelled version
