pub mod Kept
pub mod Running
mod Owning
