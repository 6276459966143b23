pub mod Nests
pub mod PlanNests
pub mod FormulaDefs
