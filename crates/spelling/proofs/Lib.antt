mod Numerals
mod Statements
mod TokenForms
mod Undoubling
mod Written
mod LayoutLaws
mod Formed
mod Commented
pub mod Laws
mod ReadingLaws
mod Signs
mod WritingLaws
mod Doubling
mod Looking
mod PrintedLists
mod Cut
mod Shallow
