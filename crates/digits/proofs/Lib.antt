pub mod Written
pub mod Decimal
pub mod Lengths
pub mod Steps
pub mod Bytes
pub mod Back
pub mod Capped
