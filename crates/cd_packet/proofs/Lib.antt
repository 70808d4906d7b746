pub mod Growing
pub mod Walking
pub mod Holding
pub mod Payloads
pub mod BuildingBack
