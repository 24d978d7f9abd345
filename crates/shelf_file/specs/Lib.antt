pub mod Keys
pub mod Checks
pub mod Contents
pub mod Users
pub mod Shelves
pub mod Trials
