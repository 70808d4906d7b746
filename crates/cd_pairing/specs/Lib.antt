pub mod Events
pub mod Matching
pub mod PairSet
pub mod Pairing
pub mod Laws
pub mod Settling
pub mod Records
pub mod Waiting
