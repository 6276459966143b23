mod Turns
mod Depth
mod Printed
mod FormulaCanon
mod FormulaComplete
mod FormulaDepth
mod FormulaFitting
mod FormulaLaws
mod FormulaNames
mod FormulaNumbers
mod FormulaSizes
mod FormulaSound
mod FormulaTurns
mod FormulaWords
mod NamedWords
pub mod Laws
