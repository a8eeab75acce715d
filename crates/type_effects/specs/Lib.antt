pub mod NewTypes
