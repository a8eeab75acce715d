pub mod Pieces
pub mod Customs
pub mod Growing
