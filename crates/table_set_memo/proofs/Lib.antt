mod MemoLaws
pub mod Laws
