pub mod Filters
pub mod EventMask
pub mod Counting
