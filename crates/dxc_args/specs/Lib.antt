pub mod Counts
pub mod Lines
pub mod Matching
pub mod Statuses
