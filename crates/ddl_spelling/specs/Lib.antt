pub mod Paths
pub mod Sequences
pub mod Views
pub mod Keys
pub mod RowsText
pub mod RightsText
pub mod Roles
pub mod Tables
