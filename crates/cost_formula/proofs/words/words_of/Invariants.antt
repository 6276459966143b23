use Rattle.std.proofs.Common.{◌≡◌, map, take}
use Rattle.spelling.specs.Lexemes.{lexemes_of}
use Rattle.cost_formula.specs.Formulas.{formula_word}
use Rattle.cost_formula.specs.Vocabularies.{variables_of}
use Rattle.cost_formula.proofs.words.words_of.Given as goal

abbrev pub invariant-loop-token : goal.invariant-loop-token
invariant-loop-token l = l.words.items ≡ map (formula_word (variables_of l.vocabulary)) (lexemes_of l.source (take l.token-index l.tokens))
