-- The laws that other crates may cite. Each is the clause of a function of the module `theorems`.
pub use Rattle.rule_grammar.proofs.SmallestTexts.{canonical_formula_def, canonical_select_def, tiny_is_spelled}
pub use Rattle.rule_grammar.proofs.RuleLaws.{one_formula_def, one_select_def, one_rule_file}
pub use Rattle.rule_grammar.proofs.RuleWriting.{written_rules_spell, canonical_rules}
pub use Rattle.rule_grammar.proofs.ValueReading.{value_is_read}
pub use Rattle.rule_grammar.proofs.ValueSpelled.{value_is_spelled}
pub use Rattle.rule_grammar.proofs.RangeLaws.{range_is_read, range_is_spelled}
pub use Rattle.rule_grammar.proofs.ConditionLaws.{condition_is_read, condition_is_spelled}
pub use Rattle.rule_grammar.proofs.StarLaws.{star_is_read, one_star}
pub use Rattle.rule_grammar.proofs.StarSpelled.{for_all_spelled, alternative_spelled, parameter_spelled}
pub use Rattle.rule_grammar.proofs.FormulaHeadLaws.{formula_head_reads}
pub use Rattle.rule_grammar.proofs.SelectHeadLaws.{select_head_reads, parts_are_found, found_parts}
