pub mod Ascii
pub mod Digits
pub mod Written
pub mod Reading
