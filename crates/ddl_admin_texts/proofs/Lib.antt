pub mod Common
pub mod RightSets
pub mod Admin
pub mod Rights
