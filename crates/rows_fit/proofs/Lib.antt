pub mod InOrder
pub mod Reading
pub mod Trying
pub mod KeyLaws
pub mod Distinct
pub mod Placing
