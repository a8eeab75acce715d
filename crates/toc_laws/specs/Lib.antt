pub mod Shown
pub mod Serial
pub mod Dumps
