pub mod Tokens
pub mod Texts
pub mod TypeTexts
pub mod DefaultTexts
pub mod IndexTexts
pub mod SequenceTypes
pub mod ViewTexts
pub mod Examples
