pub mod Small
pub mod Shown
pub mod Keys
pub mod Serial
pub mod Views
pub mod Types
pub mod Chosen
