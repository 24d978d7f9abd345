pub mod Messages
pub mod Texts
pub mod Blocks
pub mod Responses
