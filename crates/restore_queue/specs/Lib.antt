pub mod Lined
pub mod Ready
pub mod Indexed
pub mod Workers
pub mod Choosing
pub mod Queues
pub mod Nexts
pub mod Examples
