pub mod Places
pub mod Tied
pub mod Plays
pub mod Seats
pub mod Laws
pub mod New
pub mod Looks
pub mod Stands
