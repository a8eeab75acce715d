pub mod Examples
pub mod InOrder
pub mod Machine
pub mod Phases
