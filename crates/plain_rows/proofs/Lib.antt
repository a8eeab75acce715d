pub mod KeySteps
pub mod FieldSteps
pub mod CopiedLines
pub mod LineKeys
pub mod Rising
pub mod RisingLines
mod PartLines
