-- for readers of the promise
pub mod FormulaCanonical
pub mod FormulaGrammar
pub mod Formulas
pub mod Vocabularies
-- for readers of the code: its tests, its walks, and what their answers say
pub mod Reading
pub mod Nests
pub mod Printing
pub mod FormulaReading
