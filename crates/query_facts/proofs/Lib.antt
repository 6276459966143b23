mod MemberWalks
mod WeighingWalks
mod OnlyMembers
mod KeyWalks
mod WidthSums
mod GatheringLaws
mod UsedLaws
pub mod Laws
