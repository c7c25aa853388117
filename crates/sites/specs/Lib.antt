pub mod Sites
pub mod Texts
