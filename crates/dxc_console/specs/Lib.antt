pub mod Given
pub mod Streams
pub mod Telling
pub mod Words
