pub mod Reports
pub mod Statuses
pub mod Wanted
pub mod Endings
pub mod Examples
pub mod InTurn
pub mod FirstErrors
