pub mod NumberLaws
pub mod HoldingLaws
