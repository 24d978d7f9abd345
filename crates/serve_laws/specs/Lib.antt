pub mod Written
pub mod Timing
pub mod Passes
pub mod Frames
pub mod Jobs
pub mod Copies
pub mod Keepers
pub mod Headline
