pub mod TextNames
pub mod FirstTables
pub mod Along
pub mod TableLaws
pub mod Laws
