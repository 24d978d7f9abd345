pub mod Laws
pub mod Mirrorings
