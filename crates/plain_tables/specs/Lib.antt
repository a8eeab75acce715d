pub mod Roles
pub mod Schemas
pub mod Labels
pub mod Relations
pub mod Comments
pub mod Depends
pub use Rattle.cat_book.specs.Meets
pub use Rattle.cat_book.specs.Rules
