use Rattle.std.proofs.Common.{◌≡◌, ◌++◌, map, take}
use Rattle.rule_grammar.specs.Rules.{OfStar}
use Rattle.rule_printing.specs.Printing.{definition_of}
use Rattle.rule_printing.proofs.print.push_stars.Given as goal

abbrev pub invariant-loop-star : goal.invariant-loop-star
invariant-loop-star l = map definition_of l.all.items ≡ map definition_of l.fn.all.items ++ map OfStar (take l.star-index l.stars)
