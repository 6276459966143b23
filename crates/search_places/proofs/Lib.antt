mod Finding
mod Down
mod Within
mod Sound
mod SharedLaws
pub mod Laws
