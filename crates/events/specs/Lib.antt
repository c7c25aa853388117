pub mod Records
pub mod Raised
