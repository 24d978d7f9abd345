pub mod Among
pub mod Completing
pub mod Effects
pub mod HearingsOnce
pub mod Once
