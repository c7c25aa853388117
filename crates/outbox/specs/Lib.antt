pub mod Refusals
pub mod Calls
