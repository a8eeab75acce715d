pub mod Finding
mod Looking
pub use Rattle.type_ends.proofs.Reached
