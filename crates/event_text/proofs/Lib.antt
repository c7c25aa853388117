pub mod Good
pub mod Length
pub mod Printed
pub mod Examples
