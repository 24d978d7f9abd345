pub mod Starting
pub mod Checking
pub mod Audits
pub mod Exporting
pub mod Loading
pub mod Stocking
pub mod Mirroring
pub mod Wording
