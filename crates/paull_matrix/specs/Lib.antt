pub mod Middles
pub mod Colourings
pub mod Indexes
pub mod CellCodes
