pub mod Data
pub mod Laws
pub mod RoundTrip
pub mod Examples
