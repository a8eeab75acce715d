pub mod Common
pub mod ValueLaws
