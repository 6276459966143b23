pub mod Memos
pub mod Roots
pub mod Searching
pub mod Shared
