pub mod Chains
pub mod Exchanges
pub mod Works
pub mod Paull
pub mod Choices
pub mod Laws
pub mod Walks
