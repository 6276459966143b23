mod Growing
mod AskedLaws
mod EmptyMemos
pub mod Laws
