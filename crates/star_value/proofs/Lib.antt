pub mod Passing
pub mod Mapped
pub mod Members
pub mod Gathering
pub mod RangeLaws
