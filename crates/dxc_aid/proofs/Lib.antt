pub mod Numbers
pub mod Cases
pub mod Ends
pub mod Ports
pub mod Selections
pub mod Writes
