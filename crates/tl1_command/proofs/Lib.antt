pub mod Anys
pub mod TagFacts
pub mod LabelBytes
pub mod Commas
