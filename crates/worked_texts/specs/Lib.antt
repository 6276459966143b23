pub mod Texts
pub mod AllForms
