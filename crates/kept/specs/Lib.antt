pub mod State
pub mod Handing
