pub mod Ends
pub mod Keeping
