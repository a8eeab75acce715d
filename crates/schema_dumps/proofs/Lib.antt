pub mod Places
pub mod Objects
pub mod Said
pub mod Rowless
