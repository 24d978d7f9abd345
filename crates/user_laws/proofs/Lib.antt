pub mod Crashed
pub mod Mirrored
