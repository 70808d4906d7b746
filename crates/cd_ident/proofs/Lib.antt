pub mod ExactIds
pub mod Exchanges
pub mod WeightBounds
pub mod HeavyEvents
