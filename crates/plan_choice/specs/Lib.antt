pub mod Choice
pub mod LineOrder
pub mod FrontierLists
