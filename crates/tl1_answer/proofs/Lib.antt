pub mod Cuts
pub mod Headers
pub mod Rows
pub mod Stamps
