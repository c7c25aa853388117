pub mod State
pub mod Outcomes
pub mod Opening
