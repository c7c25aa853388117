pub mod RoundTrip
pub mod Laws
pub mod Judged
pub mod Moves
