pub mod Comparing
pub mod Refusing
pub mod Counting
pub mod Ending
pub mod Putting
pub mod Telling
pub mod Staying
pub mod Taking
pub mod Scripting
mod Carried
pub mod Printed
pub mod Pieces
pub mod Archives
pub mod Restored
pub mod CutOff
