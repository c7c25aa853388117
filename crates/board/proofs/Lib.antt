pub mod Ways
pub mod Unique
pub mod Harmless
pub mod Blind
pub mod Words
pub mod Runs
