pub mod Effects
pub mod Entering
pub mod Laws
