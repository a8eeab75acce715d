pub mod Answering
pub mod Cut
pub mod Examples
pub mod FirstOrder
pub mod Indexed
pub mod Ordering
pub mod Sound
