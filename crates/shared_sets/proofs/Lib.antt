mod TableLaws
pub mod Laws
