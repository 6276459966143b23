pub mod SomeTold
