pub mod Batches
pub mod RowTexts
pub mod Laws
