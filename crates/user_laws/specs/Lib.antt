pub mod Crashes
pub mod Mirrorings
