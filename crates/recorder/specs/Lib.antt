pub mod Outcomes
pub mod Receiving
pub mod Changes
pub mod Sending
pub mod Register
pub mod Printing
