pub mod Standing
pub mod Oids
pub mod Rights
pub mod Cluster
pub mod Kinds
pub mod Examples
