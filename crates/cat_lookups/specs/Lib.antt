pub mod Found
pub mod Beside
pub use Rattle.type_ends.specs.Ends
