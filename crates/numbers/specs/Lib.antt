pub mod Numbers
pub mod Scan
