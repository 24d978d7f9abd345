pub mod Frames
pub mod Rows
pub mod Lines
pub mod Laws
