pub mod Ids
pub mod Frames
