mod Loops
mod MemberLaws
mod SetLaws
mod SeriesLaws
mod StatementLaws
mod Understood
mod PlaceLaws
mod SoFar
mod Piles
mod TooFar
mod Forests
mod FaultLaws
mod ReadBack
mod Verdicts
pub mod Laws
mod DerivationLaws
mod DerivationWriting
