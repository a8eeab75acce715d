pub mod InOrder
pub mod FirstFaults
