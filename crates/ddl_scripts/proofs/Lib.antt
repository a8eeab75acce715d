pub mod Common
pub mod RowLaws
pub mod RowTexts
pub mod LineNames
pub mod Computing
pub use Rattle.ddl_grammar.proofs.Meanings
