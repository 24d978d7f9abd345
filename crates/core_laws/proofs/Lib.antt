pub mod Openings
pub mod Succeeding
pub mod Mirrored
