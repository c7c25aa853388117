pub mod Laws
pub mod RoundTrip
pub mod Examples
pub mod OfCode
