pub mod Coming
pub mod Making
pub mod Lines
pub mod Asking
