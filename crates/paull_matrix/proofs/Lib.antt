pub mod Bits
pub mod Cells
pub mod Legs
pub mod Indexed
