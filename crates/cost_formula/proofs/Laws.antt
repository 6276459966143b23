-- The laws that other crates may cite. Each is the clause of a function of the module `theorems`.
pub use Rattle.cost_formula.proofs.FormulaLaws.{one_formula, canonical_cost, canonical_select, formula_reads}
pub use Rattle.cost_formula.proofs.FormulaSizes.{few_nodes}
pub use Rattle.cost_formula.proofs.FormulaNumbers.{great_numbers_stay}
pub use Rattle.cost_formula.proofs.FormulaNames.{cost_names, select_names, no_per_in_cost, no_per_in_select, cost_spelled_again, select_spelled_again}
pub use Rattle.cost_formula.proofs.FormulaFitting.{formed_formula}
