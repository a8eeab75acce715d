pub mod Decimals
pub mod Steps
pub mod Simple
pub mod FieldLaws
pub mod Repeated
pub mod Loops
pub mod Appending
pub mod FieldFits
