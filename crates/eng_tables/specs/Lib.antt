pub mod Oids
pub mod Tables
