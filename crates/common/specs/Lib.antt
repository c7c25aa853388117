pub mod All
pub mod Choice
pub mod Numbers
pub mod Refusals
pub mod Rings
pub mod Slots
pub mod Sublist
