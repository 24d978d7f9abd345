pub mod HostDisks
pub mod Openers
pub mod TcpLinks
pub mod Utc
