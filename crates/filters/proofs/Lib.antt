pub mod Fields
mod Open
pub mod EventMask
pub mod Counting
