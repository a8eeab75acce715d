pub mod RunsFour
pub mod RunsOne
pub mod RunsThree
pub mod RunsTwo
pub mod Written
