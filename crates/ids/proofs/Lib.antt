pub mod Bits
pub mod Columns
pub mod Frames
pub mod RoundTrip
