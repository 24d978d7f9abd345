pub mod Codes
pub mod Blocks
pub mod Meanings
pub mod Commands
pub mod Parts
pub mod Laws
