pub mod Ranges
pub mod TxMode
pub mod Binary
pub mod Given
