use Rattle.std.proofs.Common.{rules, map}
use Rattle.std.proofs.lemmas.List.Sorted.{IsNonDecreasingBy-from_sort_by_key}
use Rattle.rule_grammar.specs.Rules.{OfSelect, OfFormula, OfStar, number_of}
use Rattle.rule_printing.specs.Printing.{definition_of}
use Rattle.rule_printing.proofs.SortedDefinitions.{gathered, sorted_statements}
use Rattle.rule_printing.proofs.print.statements_in_order.Goals as goal

pub returns : goal.returns
returns c =
    let rules_now = c.args.rules.now in
    let all = gathered (map OfSelect rules_now.selects) (map OfFormula rules_now.formulas) (map OfStar rules_now.stars)
    (map definition_of c.push_selects.new.all.items) (map definition_of c.push_formulas.new.all.items) (map definition_of c.push_stars.new.all.items)
    (search rules) (search rules) (search rules) in
    let sorted = c.sort_unstable_by_key.ensures in
    sorted_statements c.args.rules.now _ c.sort_unstable_by_key.new.self.items c.requires all sorted.permutation
    (IsNonDecreasingBy-from_sort_by_key (λ s. number_of (definition_of s)) _ sorted.sorted (λ a r q k. search rules))
