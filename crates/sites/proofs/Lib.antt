pub mod Good
pub mod RoundTrip
pub mod Lengths
pub mod Examples
