pub mod Stops
pub mod Taking
pub mod BetweenReads
pub mod Finishing
pub mod Told
