pub mod RawPieces
pub mod ClearLines
pub mod Walks
