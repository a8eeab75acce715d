pub mod Names
pub mod Remarks
pub mod Bodies
pub mod Dumps
pub mod Statements
